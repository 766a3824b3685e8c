mod RunRows
pub mod ChartLemmas
pub mod AnswerLemmas
pub mod UtcLemmas
pub mod ShortLemmas
mod OffsetRows
mod ReplyRows
pub mod KeptLemmas
pub mod PlainLemmas
pub mod RequestLemmas
mod StreamRows
mod LogRows
mod PlainRows
pub mod ViewLemmas
pub mod WholeLemmas
mod SourceRows
mod ViewRows
pub mod EverLemmas
mod EverRows
