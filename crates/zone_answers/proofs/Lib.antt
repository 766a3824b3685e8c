pub mod RequestLemmas
pub mod AnsweringLemmas
pub mod ResponseLemmas
pub mod ReadBackLemmas
pub mod ShowingLemmas
pub mod ZoneLemmas
pub mod RefusalLemmas
pub mod AnswerRows
pub mod FaultRows
pub mod CountLemmas
pub mod MadeLemmas
pub mod SummaryLemmas
pub mod GenerateRows
mod EndRows
mod DayRows
pub mod LastLemmas
pub mod DayLemmas
pub mod SameDayLemmas
