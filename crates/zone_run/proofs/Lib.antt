pub mod NumberLemmas
pub mod RespondLemmas
pub mod RunRows
