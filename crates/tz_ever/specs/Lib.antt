-- Definitions: what public clauses say.
pub mod InForce
pub mod AnyYear
pub mod Seam
pub mod Ever
pub mod ForEver
pub mod Recurrences
pub mod ZoneShown
pub mod Asked
pub mod Unrolled
pub mod Stretches
pub mod TablesShown
pub mod Opens
-- Laws: what a caller may use.
pub mod InForceLaws
pub mod SeamLaws
pub mod RecurrenceLaws
-- Words of private clauses.
pub mod Places
