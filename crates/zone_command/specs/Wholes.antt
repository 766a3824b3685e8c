-- What is given of a zone as a whole, its file and its string, and of all zones, the tree.
use Rattle.std.specs.Prelude.{◌≡◌, ◌⊎◌, ℕ, ℤ, Bool, true, false, Result, List, [], ◌∷◌, ◌++◌, Option, Some, None, Ok, Err, codes}
use Rattle.tz_lookup.specs.declared.set.FixedTimespanSet.{FixedTimespanSet}
use Rattle.zone_command.specs.{Answers.{Answer}, Refusals.{name_words}, Views.{ever_found, found_in, range_words, schedule_words}}
use Rattle.zone_texts.specs.Views.{ZoneView}
use Rattle.zone_table.specs.declared.table.Table.{Table}
use Rattle.zone_tzif.specs.{Tails.{IsFaultForEver, IsTailForEver}, declared.outcome.EverTailFault.{EverTailFault}, EverFiles.{IsEverFile, IsEverFileFault}, declared.ever.EverFileFault.{EverFileFault}, declared.file.FileFault.{FileFault}}
use Rattle.zone_tzif.specs.declared.outcome.EverTailFault.TheVariants as tail
use Rattle.zone_tzif.specs.declared.ever.EverFileFault.TheVariants as file
use Rattle.zone_tzif.specs.declared.file.FileFault.TheVariants as changes
use Rattle.zone_tree.specs.{EverTrees.{OfTree}, Names.{finds_in_table}, Trees.{Refused, refused, tree_by}, declared.refusal.Why.{Why}}
use Rattle.zone_tree.specs.declared.refusal.Why.TheVariants as why
use Rattle.zone_tzif_core.specs.declared.values.WriteFault.TheVariants as write

abbrev pub ending_words : List ℕ
ending_words = codes "the rules of this zone end, or aren't found to come again, so it isn't told for ever"

-- why no string carries a zone on
abbrev pub tail_words : EverTailFault → List ℕ
tail_words tail.Saving = codes "no string says this zone for ever: it has daylight saving time for good"
tail_words tail.Shape = codes "no string says this zone for ever: a year has other changes than one to daylight saving time and one back"
tail_words tail.OffsetRange = codes "no string says this zone for ever: it has an offset past 24:59:59"
tail_words tail.Name = codes "no string says this zone for ever: an abbreviation isn't three or more letters, digits, + or -"
tail_words tail.NoRule = codes "no string says this zone for ever: no days of its rules come again each year"
tail_words tail.NoMemory = codes "out of memory"

abbrev pub changes_words : FileFault → List ℕ
changes_words changes.Times = codes "this zone has no file: its changes don't rise, or are too many"
changes_words changes.Types = codes "this zone has no file: it has more than 256 kinds of time"
changes_words changes.Names = codes "this zone has no file: its abbreviations don't fit into one"
changes_words changes.NoMemory = codes "out of memory"

abbrev pub file_words : EverFileFault → List ℕ
file_words (file.Footer fault) = tail_words fault
file_words (file.File fault) = changes_words fault

-- the name finds no zone
pub record IsUnfound (table : Table) (name : List ℕ) (answer : Answer) : Type 0 where
  pub why : List ℕ
  pub found : found_in table name ≡ Err why
  pub is : answer ≡ Err why

-- the zone doesn't go on for ever
pub record IsEnding (table : Table) (name : List ℕ) (answer : Answer) : Type 0 where
  pub view : ZoneView
  pub found : found_in table name ≡ Ok view
  pub ends : ever_found table name ≡ None
  pub is : answer ≡ Err ending_words

-- it goes on, and this is said of what it puts in force
pub record IsEver (Says : FixedTimespanSet → Answer → Type 0) (table : Table) (name : List ℕ) (answer : Answer) : Type 0 where
  pub set : FixedTimespanSet
  pub goes_on : ever_found table name ≡ Some set
  pub says : Says set answer

abbrev pub IsWhole : (FixedTimespanSet → Answer → Type 0) → Table → List ℕ → Answer → Type 0
IsWhole Says table name answer = IsUnfound table name answer ⊎ (IsEnding table name answer ⊎ IsEver Says table name answer)

-- the file, or why there is none
abbrev pub IsFileOf : FixedTimespanSet → Answer → Type 0
IsFileOf set (Ok bytes) = IsEverFile set bytes
IsFileOf set (Err why) = (fault : EverFileFault) × IsEverFileFault set fault × (why ≡ file_words fault)

-- a line with the string, or why there is none
pub record IsStringLine (set : FixedTimespanSet) (bytes : List ℕ) : Type 0 where
  pub from : Option ℤ
  pub text : List ℕ
  pub carries : IsTailForEver set from text
  pub line : bytes ≡ text ++ 10 ∷ []

abbrev pub IsStringOf : FixedTimespanSet → Answer → Type 0
IsStringOf set (Ok bytes) = IsStringLine set bytes
IsStringOf set (Err why) = (fault : EverTailFault) × IsFaultForEver set fault × (why ≡ tail_words fault)

-- why a name has no entry in the tree
abbrev pub why_words : Why → List ℕ
why_words (why.Schedule fault) = schedule_words fault
why_words why.OffsetRange = range_words
why_words why.RulesEnd = ending_words
why_words (why.String fault) = tail_words fault
why_words why.Format = codes "a % is left in an abbreviation of this zone"
why_words (why.File write.Times) = changes_words changes.Times
why_words (why.File write.Types) = changes_words changes.Types
why_words (why.File write.Names) = changes_words changes.Names
why_words (why.File write.Offset) = codes "this zone has no file: it has an offset of 26 hours or more"
why_words (why.File write.Footer) = codes "this zone has no file: its string doesn't fit into one"
why_words (why.File write.NoMemory) = codes "out of memory"
why_words why.Link = codes "this link leads to no zone"
why_words why.Name = codes "an archive has no place for this name"
why_words why.Size = codes "the file of this zone is too long for an archive"

-- the archive of all files, of which this tells, or the first name without an entry
abbrev pub IsTreeBy : ((Result (List ℕ) Refused → Type 0) → Type 0) → Answer → Type 0
IsTreeBy Of (Ok bytes) = Of (λ tree. tree ≡ Ok bytes)
IsTreeBy Of (Err words) = (name : List ℕ) × (why : Why) × Of (λ tree. tree ≡ Err (refused name why)) × (words ≡ name_words name (why_words why))

-- that of zones to the end of 2099
abbrev pub OfTreeTo2099 : Option (List ℕ) → Table → (Result (List ℕ) Refused → Type 0) → Type 0
OfTreeTo2099 release table Is = Is (tree_by release (finds_in_table table))

-- to the end of 2099, or for ever
abbrev pub IsTreeOf : Option (List ℕ) → Table → Bool → Answer → Type 0
IsTreeOf release table true = IsTreeBy (OfTreeTo2099 release table)
IsTreeOf release table false = IsTreeBy (OfTree release table)
