-- Definitions: what public clauses say.
pub mod Years
pub mod Lines
pub mod Windows
pub mod Firings
pub mod Listing
pub mod Entries
pub mod Collapse
pub mod Faults
pub mod FaultNames
pub mod Compiled
pub mod Bounds
pub mod Schedules
pub mod Cycle
pub mod Settled
pub mod Later
pub mod GoesOn
-- Laws: what a caller may use.
pub mod ScheduleLaws
pub mod LaterLaws
-- Words of private clauses.
pub mod Placed
pub mod Fires
pub mod Fronts
pub mod Quiet
pub mod Stands
pub mod Kept
pub mod Several
pub mod KeptFor
pub mod Places
pub mod Tested
pub mod TestedFor
pub mod Causes
pub mod Cuts
