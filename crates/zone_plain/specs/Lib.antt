-- Definitions: what public clauses say.
pub mod LineValues
pub mod Heads
pub mod Declares
pub mod Leads
pub mod Settled
pub mod Needs
pub mod OffsetTexts
pub mod MadeNames
pub mod Formats
pub mod Pairs
pub mod Made
pub mod Written
pub mod WrittenOut
pub mod Abbreviations
pub mod Plain
pub mod Named
pub mod ReadBack
pub mod WrittenLines
pub mod Rebuilt
pub mod Kept
-- Laws: what a caller may use.
pub mod MadeNameLaws
pub mod PairLaws
pub mod SaidLaws
pub mod MadeLaws
pub mod TableLaws
pub mod AbbreviationLaws
pub mod NoneLeftLaws
-- Words of private clauses.
pub mod Shown
pub mod Told
pub mod ToldOffsets
pub mod Stands
