-- What is compiled under a name.
use Rattle.std.specs.{Prelude.{◌≡◌, ◌≢◌, ℕ, List, option_map, false, Option, Some, None, Result, Ok, Err}, FinMap.{get}}
use Rattle.zone_spans.specs.{Compiled.{compiled_over}, Schedules.{is_in_offset_range, totals_of}, Years.{most_years}, declared.fault.SpanFault.{SpanFault}}
use Rattle.zone_spans.specs.declared.fault.SpanFault.TheVariants as span_fault
use Rattle.zone_spans.specs.declared.span.FixedTimespanSet as spans
use Rattle.zone_table.specs.{Resolved.{resolved_in}, declared.table.Table.{Table}}
use Rattle.tz_lookup.specs.declared.{compile.ZoneFault.{ZoneFault}, compile.ZoneFault.TheVariants.{UnknownZone, Schedule, OffsetRange, NoMemory}, set.FixedTimespanSet.{FixedTimespanSet}}

-- what a name finds in a table: nothing, or its zone's spans over so many years or why it has none
abbrev pub compiled_in_over : ℕ → Table → List ℕ → Option (Result spans.FixedTimespanSet SpanFault)
compiled_in_over years table name = option_map (compiled_over years (get table.rulesets)) (resolved_in table name)

-- over the years to the latest
abbrev pub compiled_in : Table → List ℕ → Option (Result spans.FixedTimespanSet SpanFault)
compiled_in table name = compiled_in_over most_years table name

-- the spans of a set, without its name
abbrev pub spans_of : FixedTimespanSet → spans.FixedTimespanSet
spans_of set = record { first = set.first; rest = set.others }

-- the set has the spans that were found
abbrev pub IsCompiledAs : FixedTimespanSet → Option (Result spans.FixedTimespanSet SpanFault) → Type 0
IsCompiledAs set found = found ≡ Some (Ok (spans_of set))

-- the spans that were found have an offset of 26 hours or more
pub record IsTooFar (found : Option (Result spans.FixedTimespanSet SpanFault)) : Type 0 where
  pub set : spans.FixedTimespanSet
  pub is_found : found ≡ Some (Ok set)
  pub far : is_in_offset_range (totals_of set) ≡ false

-- why what was found can't be looked up; want of memory may come in place of any
abbrev pub IsZoneFault : Option (Result spans.FixedTimespanSet SpanFault) → ZoneFault → Type 0
IsZoneFault found UnknownZone = found ≡ None
IsZoneFault found (Schedule fault) = (found ≡ Some (Err fault)) × (fault ≢ span_fault.NoMemory)
IsZoneFault found OffsetRange = IsTooFar found
IsZoneFault found NoMemory = Unit {0}
