-- Definitions: what public clauses say.
pub mod Numbers
pub mod Zones
pub mod Format
pub mod Shown
pub mod Denotes
pub mod Tzif
pub mod Totals
pub mod Stored
pub mod ZoneFiles
-- Words of private clauses.
pub mod Reading
pub mod Names
pub mod Check
pub mod Collected
pub mod Profile
