mod FileLemmas
mod FooterLemmas
pub mod CauseLemmas
pub mod TotalLemmas
pub mod ValueLemmas
pub mod PlaceLemmas
mod WorkedKinds
mod WorkedFooters
mod WorkedEver
mod StringLemmas
mod CarriedLemmas
mod ConsistentLemmas
pub mod EverLemmas
pub mod SavedLemmas
pub mod FrontLemmas
pub mod LineLemmas
-- Of the footer that carries a zone on for ever.
pub mod KindLemmas
pub mod StepLemmas
pub mod TailEverLemmas
pub mod EarliestLemmas
pub mod AnswerLemmas
pub mod FormLemmas
pub mod TextLemmas
pub mod DayLemmas
mod WorkedTried
mod WorkedAgreement
