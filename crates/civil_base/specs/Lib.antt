-- Definitions: what public clauses say.
pub mod Clock
pub mod DateTimes
pub mod Instants
pub mod Julian
pub mod Layout
pub mod LocalTimes
pub mod Offsets
pub mod Ordinals
pub mod Ranges
pub mod ReadAs
-- Laws: what a caller may use.
pub mod ClockLaws
pub mod DayLaws
pub mod DayRangeLaws
pub mod DigitLaws
pub mod LayoutLaws
pub mod OffsetLaws
pub mod OrderLaws
pub mod PartLaws
pub mod RangeLaws
pub mod ReadAsLaws
pub mod TextLaws
-- Words of private clauses.
pub mod DateParts
