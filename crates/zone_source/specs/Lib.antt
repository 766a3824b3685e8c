-- Definitions: what public clauses say.
pub mod Lines
pub mod LinesLeft
pub mod LineLists
pub mod Zones
pub mod Releases
pub mod ReleaseLines
pub mod Faults
pub mod FaultLines
pub mod Told
pub mod Statuses
pub mod Responses
pub mod FileWords
pub mod Runs
pub mod Starts
-- Laws: what a caller may use.
pub mod LineLaws
pub mod ReleaseLaws
pub mod EndLaws
-- Words of private clauses.
pub mod Joining
