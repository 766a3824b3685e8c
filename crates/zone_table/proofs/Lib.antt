mod DayLemmas
mod WorkedBounds
mod WorkedDays
mod WorkedFaults
mod WorkedNames
mod WorkedValues
pub mod BoundedLemmas
pub mod BoundedValues
pub mod FilledLemmas
pub mod FormatLemmas
mod FormatRows
pub mod JoinedRows
mod NameRows
mod OrderLemmas
mod OwnedRows
pub mod OwnedBounds
mod RuleRows
pub mod SecondsLemmas
mod SlashLemmas
pub mod Steps
mod TreeLemmas
