-- What a zone's name finds: the total in force at each instant of its zone, or why the zone can't be asked.
use Rattle.std.specs.Prelude.{ℕ, ℤ, List, Result}
use Rattle.zone_run.specs.Readings as zones
pub use Rattle.zone_run.specs.Readings.{ZoneCause as Cause, unknown_zone, bad_schedule, offset_range, rules_end, found_under}
unfoldable pub use Rattle.zone_run.specs.Readings.{found_in, given_to_2099}
use Rattle.zone_spans.specs.{Schedules.{total_at, totals_of}, declared.fault.SpanFault.{SpanFault}, declared.span.FixedTimespanSet.{FixedTimespanSet}}
use Rattle.zone_table.specs.declared.table.Table.{Table}

abbrev pub Found : Type 0
Found = zones.Found (ℤ → ℤ)

abbrev pub Reading : Type 0
Reading = zones.Reading (ℤ → ℤ)

-- over a table
unfoldable pub found_in_table : Reading → Table → List ℕ → Found
found_in_table read table name = zones.found_in_table read table name

-- by spans that were compiled
abbrev pub found_of : Result FixedTimespanSet SpanFault → Found
found_of = zones.given_of (λ set. total_at (totals_of set))

-- to the year 2099, after which the last offset holds
abbrev pub to_2099 : Reading
to_2099 = zones.given_to_2099 (λ set. total_at (totals_of set))
