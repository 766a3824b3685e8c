pub mod NumberLemmas
pub mod AgainLemmas
pub mod FoundLemmas
pub mod ExactLemmas
pub mod InstantAgainLemmas
pub mod InstantFoundLemmas
mod WorkedReadings
pub mod WrittenLemmas
pub mod BackLemmas
pub mod StampLemmas
mod WorkedStamps
mod WorkedLines
mod WorkedLogs
mod WorkedRuns
pub mod LineLemmas
pub mod CutLemmas
pub mod ReplyLemmas
pub mod RunLemmas
pub mod FrontLemmas
pub mod LogLemmas
mod WordRows
