pub mod SeamLemmas
pub mod CutLemmas
pub mod TurnLemmas
pub mod SecondLemmas
pub mod NearLemmas
pub mod TotalLemmas
pub mod AnswerLemmas
pub mod ZoneLemmas
pub mod ForEverLemmas
pub mod OpenLemmas
pub mod UnrolledLemmas
pub mod UnrolledShows
pub mod ListedLemmas
pub mod ToldLemmas
pub mod TableLemmas
mod EverRows
pub mod StretchLemmas
