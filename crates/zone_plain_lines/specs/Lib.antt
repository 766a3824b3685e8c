-- Definitions: what public clauses say.
pub mod Causes
pub mod Steps
pub mod Quotes
pub mod Words
pub mod WordLaws
pub mod Numbers
pub mod Clocks
pub mod Columns
pub mod Days
pub mod Meanings
pub mod PlainTexts
pub mod Same
pub mod Names
pub mod Marks
pub mod Renamed
pub mod LineFaults
pub mod Told
pub mod Meant
pub mod Said
-- Laws: what a caller may use.
pub mod SameLaws
pub mod MeantLaws
pub mod MarkLaws
pub mod NameLaws
pub mod SaidLaws
