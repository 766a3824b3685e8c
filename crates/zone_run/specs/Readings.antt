-- What a zone's name finds: what is given of the spans of its lines, or why the zone can't be asked.
use Rattle.std.specs.{Prelude.{ℕ, List, Option, Some, None, Result, Ok, Err, if◌then◌else◌}, FinMap.{get}}
use Rattle.zone_source.specs.Zones.{zone_in, rules_in}
use Rattle.zone_spans.specs.{Compiled.{compiled}, Lines.{Rulesets}, Schedules.{totals_of, is_in_offset_range}, declared.fault.SpanFault.{SpanFault}, declared.span.FixedTimespanSet.{FixedTimespanSet}}
use Rattle.zone_table.specs.{Resolved.{resolved_in}, declared.table.Table.{Table}, declared.zone.ZoneInfo.{ZoneInfo}}

-- no zone has the name; the zone has no schedule; it has an offset of 26 hours or more; its rules end
pub data ZoneCause : Type 0 where
  unknown_zone : ZoneCause
  bad_schedule : SpanFault → ZoneCause
  offset_range : ZoneCause
  rules_end : ZoneCause

abbrev pub Found : Type 0 → Type 0
Found X = Result X ZoneCause

-- how the lines of a zone are read under rulesets
abbrev pub Reading : Type 0 → Type 0
Reading X = Rulesets → List ZoneInfo → Found X

-- of the lines that a name finds, if it finds some
abbrev pub found_under : {X : Type 0} → Reading X → Rulesets → Option (List ZoneInfo) → Found X
found_under read rulesets None = Err unknown_zone
found_under read rulesets (Some lines) = read rulesets lines

-- over a source
unfoldable pub found_in : {X : Type 0} → Reading X → List ℕ → List ℕ → Found X
found_in read source name = found_under read (rules_in source) (zone_in source name)

-- over a table
abbrev pub found_in_table : {X : Type 0} → Reading X → Table → List ℕ → Found X
found_in_table read table name = found_under read (get table.rulesets) (resolved_in table name)

-- what is given of spans that were compiled, where each offset is less than 26 hours in size
abbrev pub given_of : {X : Type 0} → (FixedTimespanSet → X) → Result FixedTimespanSet SpanFault → Found X
given_of give (Err fault) = Err (bad_schedule fault)
given_of give (Ok set) = if is_in_offset_range (totals_of set) then Ok (give set) else Err offset_range

-- to the year 2099, after which the last span lasts
unfoldable pub given_to_2099 : {X : Type 0} → (FixedTimespanSet → X) → Reading X
given_to_2099 give rulesets lines = given_of give (compiled rulesets lines)

-- ---- the spans themselves

abbrev pub Spans : Type 0
Spans = FixedTimespanSet

abbrev pub to_2099 : Reading Spans
to_2099 = given_to_2099 (λ set. set)
