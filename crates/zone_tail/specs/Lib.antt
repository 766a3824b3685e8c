-- Definitions: what public clauses say.
pub mod Rules
pub mod Totals
pub mod Candidates
pub mod Agreement
pub mod Choices
pub mod LastYear
pub mod Changes
pub mod Texts
pub mod Tails
pub mod Values
pub mod Settled
pub mod Carried
pub mod Found
pub mod Lines
pub mod Asks
pub mod Starts
-- Laws: what a caller may use.
pub mod CleanLaws
-- Words of private clauses.
pub mod Shapes
pub mod Ready
