-- The archive of a table's zones for ever.
use Rattle.std.specs.{Prelude.{◌≡◌, ℕ, List, [], ◌∷◌, map, true, false, All, Option, Some, None, Result, Ok, Err, bytes_eq, if◌then◌else◌}, FinMap.{keys}}
use Rattle.tz_ever.specs.{Opens.{IsEverFault, IsFoundForEver}, declared.open.EverFault.{EverFault}, declared.open.EverFault.TheVariants.{LaterDay, LaterOffset, RulesEnd as Ending, Zone}}
use Rattle.tz_lookup.specs.declared.set.FixedTimespanSet.{FixedTimespanSet}
use Rattle.tz_lookup.specs.declared.compile.ZoneFault.TheVariants as zone
use Rattle.zone_tree.specs.{ArchiveEntries.{Content, of_file, of_link}, Contents.{is_marked}, Names.{finds_by_table}, Trees.{Cause, Refused, of_source, or_cause, tree_by}, declared.refusal.Why.{Why}}
use Rattle.zone_tree.specs.declared.refusal.Why.TheVariants as why
use Rattle.zone_source.specs.{Faults.{source_fault}, Releases.{release_of}, Zones.{values_of}}
use Rattle.zone_spans.specs.declared.fault.SpanFault.TheVariants.{DayRange}
use Rattle.zone_table.specs.{Tables.{IsTableOf}, declared.table.Table.{Table}}
use Rattle.zone_tzif.specs.{declared.outcome.EverTailFault.{EverTailFault}, EverFiles.{IsEverFile, IsEverFileFault}, declared.ever.EverFileFault.{EverFileFault}, declared.ever.EverFileFault.TheVariants.{Footer, File}}
use Rattle.zone_tzif.specs.declared.outcome.EverTailFault.TheVariants as tail
use Rattle.zone_tzif.specs.declared.file.FileFault.TheVariants as file
use Rattle.zone_tzif_core.specs.declared.values.WriteFault.TheVariants as write

-- ---- what a zone has

-- why a name has no zone for ever; want of memory is no reason
abbrev pub zone_why : EverFault → Option Why
zone_why (Zone zone.UnknownZone) = Some why.Name
zone_why (Zone (zone.Schedule fault)) = Some (why.Schedule fault)
zone_why (Zone zone.OffsetRange) = Some why.OffsetRange
zone_why (Zone zone.NoMemory) = None
zone_why LaterDay = Some (why.Schedule DayRange)
zone_why Ending = Some why.RulesEnd
zone_why LaterOffset = Some why.OffsetRange

-- why no footer carries its zone on
abbrev pub footer_why : EverTailFault → Option Why
footer_why tail.NoMemory = None
footer_why tail.Saving = Some (why.String tail.Saving)
footer_why tail.Shape = Some (why.String tail.Shape)
footer_why tail.OffsetRange = Some (why.String tail.OffsetRange)
footer_why tail.Name = Some (why.String tail.Name)
footer_why tail.NoRule = Some (why.String tail.NoRule)

-- and why there is no file
abbrev pub file_why : EverFileFault → Option Why
file_why (Footer cause) = footer_why cause
file_why (File file.Times) = Some (why.File write.Times)
file_why (File file.Types) = Some (why.File write.Types)
file_why (File file.Names) = Some (why.File write.Names)
file_why (File file.NoMemory) = None

pub data HasNoFile (table : Table) (name : List ℕ) (cause : Why) : Type 0 where
  unopened : (fault : EverFault) → IsEverFault table name fault → zone_why fault ≡ Some cause → HasNoFile table name cause
  marked : (set : FixedTimespanSet) → IsFoundForEver table name set → is_marked set ≡ true → cause ≡ why.Format → HasNoFile table name cause
  unwritten : (set : FixedTimespanSet) (fault : EverFileFault) → IsFoundForEver table name set → is_marked set ≡ false
      → IsEverFileFault set fault → file_why fault ≡ Some cause → HasNoFile table name cause

-- the file of the zone that the name finds for ever
pub record HasFile (table : Table) (name bytes : List ℕ) : Type 0 where
  pub set : FixedTimespanSet
  pub is_found : IsFoundForEver table name set
  pub unmarked : is_marked set ≡ false
  pub is : IsEverFile set bytes

abbrev pub HasContent : Table → List ℕ → Result Content Why → Type 0
HasContent table name (Ok (of_file bytes)) = HasFile table name bytes
HasContent table name (Ok (of_link target)) = ⊥
HasContent table name (Err cause) = HasNoFile table name cause

-- ---- the archive

-- names, and what the zone of each has
abbrev pub Contents : Type 0
Contents = List (List ℕ × Result Content Why)

-- that of a name
abbrev pub content_in : Contents → List ℕ → Result Content Why
content_in [] name = Err why.Name
content_in (c ∷ contents) name = if bytes_eq name c.0 then c.1 else content_in contents name

-- those of all zones of a table
pub record AreContents (table : Table) (contents : Contents) : Type 0 where
  pub names : map (λ c. c.0) contents ≡ keys table.zonesets
  pub each : All (λ c. HasContent table c.0 c.1) contents

-- this holds of the archive with the files of the zones for ever, or of the first name that has no entry
pub record OfTree (release : Option (List ℕ)) (table : Table) (Is : Result (List ℕ) Refused → Type 0) : Type 0 where
  pub contents : Contents
  pub are : AreContents table contents
  pub tree : Is (tree_by release (finds_by_table table (content_in contents)))

-- and of that of a source without a fault
pub record OfSource (source : List ℕ) (Is : Result (List ℕ) Cause → Type 0) : Type 0 where
  pub sound : source_fault source ≡ None
  pub table : Table
  pub is_table : IsTableOf table (values_of source)
  pub tree : OfTree (release_of source) table (λ tree. Is (or_cause tree))

-- the archive of a source for ever
abbrev pub IsEverTree : List ℕ → List ℕ → Type 0
IsEverTree source bytes = OfSource source (λ tree. tree ≡ Ok bytes)

-- the first cause that there is none
abbrev pub IsEverCause : List ℕ → Cause → Type 0
IsEverCause source (of_source fault) = source_fault source ≡ Some fault
IsEverCause source cause = OfSource source (λ tree. tree ≡ Err cause)
