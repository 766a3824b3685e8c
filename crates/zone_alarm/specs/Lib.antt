-- Definitions: what public clauses say.
pub mod Rings
pub mod RingsOnce
pub mod Shown
pub mod Words
pub mod RingLines
pub mod Asks
pub mod Starts
