-- Definitions: what public clauses say.
pub mod Codes
pub mod Defaults
pub mod Digits
pub mod DigitRange
pub mod Errors
pub mod ItemTrees
pub mod Lengths
pub mod SysTimes
pub mod Trees
-- Laws: what a caller may use.
pub mod CodeLaws
pub mod DigitLaws
pub mod ItemLaws
pub mod TreeLaws
