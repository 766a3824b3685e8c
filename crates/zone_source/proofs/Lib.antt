pub mod LineLemmas
pub mod LineListLemmas
pub mod JoinLemmas
pub mod SourceRows
mod WorkedReleases
mod TextReadLemmas
mod EndLemmas
