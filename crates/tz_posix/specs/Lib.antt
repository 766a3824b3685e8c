-- Definitions: what public clauses say.
pub mod Days
pub mod InForce
pub mod Marks
pub mod Offsets
pub mod Parses
pub mod PosixShown
pub mod PosixZones
pub mod Ranges
pub mod Reading
pub mod Resolved
pub mod Seconds
pub mod Shown
pub mod Spells
pub mod Values
pub mod Yearly
pub mod TwoRules
pub mod Agreement
pub mod RealPairs
-- Laws: what a caller may use.
pub mod AgainLaws
pub mod DayLaws
pub mod EntryLaws
pub mod FoundLaws
pub mod RangeLaws
pub mod TimeLaws
pub mod WeekdayLaws
-- Words of private clauses.
pub mod NamedShown
