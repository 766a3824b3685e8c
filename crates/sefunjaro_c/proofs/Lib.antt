pub mod Addresses
pub mod Loans
mod AnySourceLemmas
mod AskedLemmas
mod FaultLemmas
mod ListLemmas
pub mod NumberRows
pub mod RoomRows
mod ShownLemmas
mod TextLemmas
mod TimeLemmas
pub mod WorkedPlain
pub mod WorkedStatuses
pub mod WorkedTimes
pub mod WorkedWhole
