pub mod CodeLemmas
pub mod ItemLemmas
pub mod WorkedCodes
pub mod WorkedItems
pub mod WorkedTimes
