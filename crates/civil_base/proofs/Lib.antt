pub mod DateTimeLemmas
pub mod FoundLemmas
pub mod ReadLemmas
pub mod LocalTimeLemmas
pub mod WorkedTexts
pub mod OrdinalLemmas
pub mod TableLemmas
