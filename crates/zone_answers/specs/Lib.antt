-- Definitions: what public clauses say.
pub mod Requests
pub mod Asked
pub mod Found
pub mod Opened
pub mod Faults
pub mod FaultLines
pub mod Told
pub mod Due
pub mod Counts
pub mod Words
pub mod ReadBack
pub mod SameDays
pub mod Ends
pub mod Responses
pub mod Made
pub mod Summary
pub mod Generated
pub mod Starts
-- Laws: what a caller may use.
pub mod AskedLaws
pub mod FoundLaws
pub mod EndLaws
pub mod SameDayLaws
-- Words of private clauses.
pub mod Tasks
