pub mod StepLemmas
pub mod ColumnLemmas
pub mod WidthLemmas
pub mod ListRows
pub mod WindowLaws
