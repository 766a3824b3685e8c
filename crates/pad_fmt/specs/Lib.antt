-- Definitions: what public clauses say.
pub mod Options
pub mod Sink
pub mod Buffer
pub mod Exact
pub mod Padding
pub mod Metadata
pub mod Text
pub mod Number
-- Laws: what a caller may use.
pub mod BufferLaws
pub mod PaddingLaws
pub mod TextLaws
pub mod NumberLaws
pub mod WidthLaws
