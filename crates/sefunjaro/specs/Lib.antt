-- Definitions: what public clauses say.
pub mod AnySources
pub mod Answers
pub mod Answered
pub mod Asked
pub mod Causes
pub mod Changes
pub mod Clocks
pub mod Errors
pub mod Faults
pub mod Files
pub mod Found
pub mod Gaps
pub mod Offsets
pub mod Posix
pub mod PosixNames
pub mod Releases
pub mod Replies
pub mod Rooms
pub mod Shown
pub mod Sources
pub mod Zones
-- Words of private clauses.
pub mod AnswerSteps
pub mod ChangeSteps
pub mod FoundSteps
pub mod GapPlaces
pub mod Steadiness
