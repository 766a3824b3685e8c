-- Definitions: what public clauses say.
pub use Rattle.zone_tzif_core.specs.Zones
pub use Rattle.zone_tzif_core.specs.Format
pub use Rattle.zone_tzif_core.specs.Denotes
pub use Rattle.zone_tzif_core.specs.Tzif
pub use Rattle.zone_tzif_core.specs.Totals
pub use Rattle.zone_tzif_core.specs.Shown
pub mod Values
pub mod Files
pub mod Footers
pub mod EverFiles
pub mod Agreement
pub mod Tried
pub mod Tails
pub mod Tells
pub mod Asks
pub mod Starts
-- Words of private clauses.
pub mod Causes
pub mod Until
pub mod Forms
pub mod Walked
