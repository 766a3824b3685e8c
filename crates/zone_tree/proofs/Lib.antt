pub mod NameLemmas
pub mod FolderLemmas
pub mod EntryLemmas
pub mod TreeLemmas
pub mod LawLemmas
pub mod EverLemmas
mod WorkedEntries
mod WorkedLines
mod WorkedNames
pub mod FieldLemmas
pub mod SaidLemmas
pub mod PlaceLemmas
pub mod TextLemmas
pub mod ReadLemmas
pub mod HeaderRows
pub mod NameRows
