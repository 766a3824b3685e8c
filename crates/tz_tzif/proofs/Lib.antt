pub mod ChangeLemmas
pub mod CycleLemmas
mod SpanLemmas
mod OpenLemmas
mod RangeLemmas
mod FooterReadLemmas
mod FooterSaidLemmas
mod WorkedFooters
mod WorkedForce
mod WorkedKinds
