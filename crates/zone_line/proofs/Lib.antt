pub mod BlankLemmas
pub mod BoundLemmas
mod OrderLemmas
pub mod PatternLemmas
mod WorkedColumns
mod WorkedFields
