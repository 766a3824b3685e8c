-- Why a name has no entry, and what the line of that says.
use Rattle.std.specs.Prelude.{ℕ, List, [], codes}
use Rattle.zone_spans.specs.FaultNames.{fault_name}
use Rattle.zone_tzif.specs.{declared.outcome.EverTailFault.{EverTailFault}, Asks.{fault_word}}
use Rattle.zone_tzif.specs.declared.outcome.EverTailFault.TheVariants as tail
use Rattle.zone_tree.specs.declared.refusal.Why.{Why, TheVariants.{Schedule, OffsetRange, RulesEnd, String, Format, File, Link, Name, Size}}

-- what stands before the word
abbrev pub group_of : Why → List ℕ
group_of (Schedule fault) = codes "schedule "
group_of (String fault) = codes "string "
group_of _ = []

abbrev pub string_word : EverTailFault → List ℕ
string_word tail.Saving = codes "saving"
string_word tail.Shape = codes "shape"
string_word tail.OffsetRange = codes "range"
string_word tail.Name = codes "name"
string_word tail.NoRule = codes "rule"
string_word tail.NoMemory = []

abbrev pub word_of : Why → List ℕ
word_of (Schedule fault) = fault_name fault
word_of OffsetRange = codes "offset range"
word_of RulesEnd = codes "rules end"
word_of (String fault) = string_word fault
word_of Format = codes "format"
word_of (File fault) = fault_word fault
word_of Link = codes "link"
word_of Name = codes "name"
word_of Size = codes "size"
