-- Definitions: what public clauses say.
pub mod Due
pub mod Ends
pub mod Starts
pub mod Faults
pub mod Files
pub mod Requests
pub mod Responses
pub mod Told
-- Laws: what a caller may use.
pub mod EndLaws
