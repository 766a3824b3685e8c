-- Definitions: what public clauses say.
pub mod Windows
pub mod Rows
pub mod Ranges
pub mod RowTexts
pub mod Asks
pub mod Starts
-- Words of private clauses.
pub mod Columns
pub mod ShownEntries
