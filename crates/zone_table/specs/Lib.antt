-- Definitions: what public clauses say.
pub use Rattle.basics.specs.Numbers
pub mod Names
pub mod Faults
pub mod Years
pub mod Months
pub mod Weekdays
pub mod Seconds
pub mod Values
pub mod Days
pub mod Ends
pub mod LineBounds
pub mod Results
pub mod BoundedTables
pub mod Bounds
pub mod Built
pub mod Formats
pub mod Joined
pub mod Moments
pub mod NameTree
pub mod Owned
pub mod Refusals
pub mod Resolved
pub mod Shown
pub mod Tables
-- Laws: what a caller may use.
pub use Rattle.basics.specs.LogicLaws
pub mod SameLaws
pub mod WeekdayLaws
-- Words of private clauses.
pub mod Placed
