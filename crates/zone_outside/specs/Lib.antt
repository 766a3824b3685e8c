-- Definitions: what public clauses say.
pub mod Outside
pub mod Seen
pub mod Memory
pub mod Streams
pub mod Limit
pub mod Exchanges
pub mod Surroundings
pub mod Marks
