mod OutsideRows
mod ExchangeRows
pub mod Loops
pub mod MemoryLemmas
pub mod ExchangeLemmas
pub mod MarkLemmas
