pub mod OnceLemmas
pub mod RingLemmas
pub mod LineLemmas
mod AlarmRows
