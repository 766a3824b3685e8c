pub mod LineLemmas
pub mod ReadingLemmas
pub mod MetLemmas
pub mod UnderLemmas
pub mod PlainLemmas
pub mod TargetLaws
pub mod LeadsLaws
pub mod SettledLaws
pub mod SettledSaidLaws
pub mod Clean
pub mod CleanLaws
pub mod NameLemmas
pub mod LeadLemmas
pub mod LinkLemmas
pub mod StageLemmas
mod WorkedLinks
mod WorkedWritten
pub mod Followed
pub mod JoinedLaws
pub mod KeptLaws
pub mod MeansLaws
pub mod NamedLaws
pub mod OwnLaws
pub mod PartLemmas
pub mod PartLaws
pub mod Placed
pub mod PlacedLaws
pub mod ReadBackLaws
pub mod RebuiltLaws
pub mod WrittenLinesLaws
-- Of `%z`.
pub mod PairLemmas
pub mod MadeNameLemmas
pub mod GroupLemmas
pub mod MadeLemmas
pub mod RuleLemmas
pub mod OutLemmas
pub mod OffsetStageLemmas
mod WorkedOffsets
mod WorkedSources
pub mod OffsetTextLaws
