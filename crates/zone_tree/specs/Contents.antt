-- What the zone of a name has in an archive: its file, or why there is none.
use Rattle.std.specs.{Prelude.{ℕ, List, ◌||◌, nat_eq, Bool, true, false, Option, Some, None, Result, Ok, Err, if◌then◌else◌}, List.{list_any}}
use Rattle.tz_lookup.specs.declared.set.FixedTimespanSet.{FixedTimespanSet}
use Rattle.zone_tree.specs.{ArchiveEntries.{Content, of_file}, declared.refusal.Why.{Why}, declared.refusal.Why.TheVariants.{Schedule, OffsetRange, Format, File, Name}}
use Rattle.zone_run.specs.Causes.{named}
use Rattle.zone_spans.specs.{Schedules.{totals_of, is_in_offset_range}, declared.fault.SpanFault.{SpanFault}}
use Rattle.zone_spans.specs.declared.span.FixedTimespanSet as spans
use Rattle.zone_tzif_core.specs.declared.values.WriteFault.{WriteFault}
use Rattle.zone_tzif.specs.Files.{consistent_fault, consistent_file}

-- what a zone is compiled to, if there is one
abbrev pub Found : Type 0
Found = Option (Result spans.FixedTimespanSet SpanFault)

-- the file of a set, or why there is none
abbrev pub file_or : Option WriteFault → FixedTimespanSet → Result Content Why
file_or None set = Ok (of_file (consistent_file set))
file_or (Some fault) set = Err (File fault)

-- a `%` is left in a text: what a FORMAT asks for was not put in its place
abbrev pub has_mark : List ℕ → Bool
has_mark text = list_any (nat_eq 37) text

-- in the abbreviation of some span
unfoldable pub is_marked : FixedTimespanSet → Bool
is_marked set = has_mark set.first.name || list_any (λ entry. has_mark entry.1.name) set.others

-- no reader of a file knows such a mark, so there is no file with one
abbrev pub file_unless : Bool → FixedTimespanSet → Result Content Why
file_unless true set = Err Format
file_unless false set = file_or (consistent_fault set) set

-- the file of what the name of a zone finds; a name that finds nothing is none of the archive's
abbrev pub zone_content : List ℕ → Found → Result Content Why
zone_content name (Some (Ok set)) =
    if is_in_offset_range (totals_of set) then file_unless (is_marked (named name set)) (named name set) else Err OffsetRange
zone_content name (Some (Err fault)) = Err (Schedule fault)
zone_content name None = Err Name
