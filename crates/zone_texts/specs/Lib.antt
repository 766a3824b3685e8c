-- Definitions: what public clauses say.
pub mod Berlin
pub mod Faults
pub mod Fixed
pub mod Forces
pub mod Instants
pub mod Kinds
pub mod Lists
pub mod Objects
pub mod Readings
pub mod Skips
pub mod Views
-- Of rings,
pub mod Days
pub mod Rings
-- of names,
pub mod Edits
pub mod Near
pub mod Same
pub mod SeenNames
pub mod Texts
pub mod Unknown
-- and of a picture.
pub mod Charts
pub mod Escapes
pub mod Frames
pub mod SeenZones
-- Laws: what a caller may use.
pub mod DueLaws
-- Words of private clauses.
pub mod Fronts
pub mod Left
