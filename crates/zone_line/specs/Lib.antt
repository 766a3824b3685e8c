-- Definitions: what public clauses say.
pub mod Bounds
pub use Rattle.zone_table.specs.Days
pub use Rattle.zone_table.specs.Ends
pub use Rattle.zone_table.specs.Faults
pub use Rattle.zone_table.specs.Months
pub use Rattle.zone_table.specs.Names
pub use Rattle.basics.specs.Numbers
pub use Rattle.zone_table.specs.Results
pub use Rattle.zone_table.specs.Seconds
pub use Rattle.zone_table.specs.Values
pub use Rattle.zone_table.specs.Weekdays
pub use Rattle.zone_table.specs.Years
pub mod Texts
pub mod Patterns
pub mod Options
pub mod Columns
pub mod Clocks
pub mod DayColumns
pub mod Kinds
pub mod Digits
pub mod Times
pub mod Fields
pub mod LineValues
-- Words of private clauses.
mod Shown
