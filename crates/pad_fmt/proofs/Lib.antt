pub mod SinkLemmas
pub mod TextLemmas
pub mod Examples
