-- Definitions: what public clauses say.
pub mod Asked
pub mod Numbers
pub mod Tasks
pub mod Readings
pub mod Causes
pub mod Due
pub mod Ends
pub mod Starts
pub mod Responses
-- Laws: what a caller may use.
pub mod FoundLaws
