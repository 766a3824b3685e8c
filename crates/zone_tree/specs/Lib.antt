-- Definitions: what public clauses say.
pub mod ArchiveEntries
pub mod ArchiveNames
pub mod ArchiveHeaders
pub mod Archives
pub mod ArchiveReading
pub mod Contents
pub mod Names
pub mod Refusals
pub mod Entries
pub mod Trees
pub mod TreeShape
pub mod Told
pub mod EverTrees
pub mod EverTold
mod Shown
