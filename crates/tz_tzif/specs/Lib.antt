-- Definitions: what public clauses say.
pub mod Values
pub mod Spells
pub mod Shown
pub mod Ranges
pub mod Standing
pub mod FooterForce
pub mod Years
pub mod Places
pub mod FooterShown
pub mod Faults
pub mod InForce
pub mod Opened
-- Laws: what a caller may use.
pub mod FooterLaws
-- Words of private clauses.
pub mod FooterReading
pub mod Steady
pub mod Walks
