-- Definitions: what public clauses say.
pub mod Held
pub mod Statuses
pub mod Answers
pub mod AnySources
pub mod Changes
pub mod Faults
pub mod Files
pub mod ForEver
pub mod Found
pub mod Lists
pub mod Names
pub mod Numbers
pub mod Opened
pub mod Read
pub mod Times
pub mod Version
pub mod Whole
-- Words of private clauses.
pub mod Handles
pub mod Heap
pub mod Loans
