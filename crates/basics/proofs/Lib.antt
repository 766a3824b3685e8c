pub mod MarkLemmas
pub mod NumberLemmas
mod WorkedParts
pub mod WorkedDays
pub mod KeyRows
pub mod KeyedMaps
pub mod DistinctKeys
pub mod Permuted
pub mod SortedRows
pub mod StableSorts
