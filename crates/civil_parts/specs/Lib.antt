-- Definitions: what public clauses say.
pub mod Durations
pub mod Months
pub mod Weekdays
