pub mod InstantLemmas
pub mod ListLemmas
pub mod LocalLemmas
mod WorkedReplies
pub mod RungLemmas
mod DayLaws
mod RingRows
pub mod EditLemmas
pub mod NameLemmas
mod NameRows
pub mod SameLemmas
mod ChartRows
pub mod DueLemmas
pub mod RangeLemmas
