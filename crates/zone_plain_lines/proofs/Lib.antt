pub mod QuoteLemmas
pub mod WordLemmas
mod WorkedLines
mod WorkedWords
pub mod MeantLemmas
pub mod ReadingLemmas
mod WorkedSaid
mod WorkedTexts
mod MarkLemmas
mod WorkedMarks
mod WorkedNames
