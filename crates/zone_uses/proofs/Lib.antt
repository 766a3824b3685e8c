pub mod OpenedLemmas
pub mod RungLemmas
mod ToldLemmas
mod WorkedUses
