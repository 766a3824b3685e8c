pub mod NameRows
pub mod WorkedLengths
