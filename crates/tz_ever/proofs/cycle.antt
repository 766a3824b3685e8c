pub mod DayLemmas
pub mod MomentLemmas
pub mod SettledLemmas
pub mod FiringLemmas
pub mod SeamLemmas
pub mod ListingLemmas
pub mod SortLemmas
pub mod CollapseLemmas
pub mod ZoneLemmas
pub mod SpanLemmas
pub mod OrderLemmas
pub mod EverLemmas
pub mod StableLemmas
pub mod BackLemmas
pub mod BoundLemmas
pub mod FitLemmas
pub mod FaultLemmas
pub mod QuietLemmas
pub mod TestLemmas
pub mod GoingLemmas
pub mod MoreLemmas
pub mod ForEverLemmas
pub mod EnoughLemmas
mod CycleRows
mod ForEverRows
mod GoesOnRows
