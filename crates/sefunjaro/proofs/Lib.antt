mod AnswerLemmas
pub mod AnswerRows
mod AnySourceLemmas
mod AskLemmas
mod CaseLemmas
mod ChangeLemmas
pub mod ChangeRows
mod FileLemmas
pub mod FileRows
mod FoundLemmas
pub mod FoundRows
mod GapLemmas
pub mod GapRows
pub mod PosixNameRows
pub mod PosixRows
mod RowSets
mod OnlyLemmas
mod ReplyRows
mod ReleaseLemmas
mod ReplyLemmas
mod RoomLemmas
mod ShownLemmas
pub mod ShownRows
pub mod YearRows
mod UntilLemmas
mod ZoneLemmas
