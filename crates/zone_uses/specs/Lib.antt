-- Definitions: what public clauses say.
pub mod Answers
pub mod Causes
pub mod Moves
pub mod MovedShown
pub mod Opened
-- Laws: what a caller may use.
pub mod MoveLaws
