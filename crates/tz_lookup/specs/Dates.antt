-- The date-times of the spans that contain a local second.
use Rattle.std.specs.Prelude.{ℕ, ℤ, ◌+◌, ◌-◌, List, map, length}
use Rattle.civil_base.specs.{DateTimes.{at_offset}, declared.offset_date_time.OffsetDateTime.{OffsetDateTime}}
use Rattle.tz_lookup.specs.{Scans.{spans_from}, Sets.{schedule_of, total_of_span}, declared.set.FixedTimespanSet.{FixedTimespanSet}}

-- a local time at the total of each, from a span on
abbrev pub dates_from : FixedTimespanSet → ℤ → ℤ → ℕ → List OffsetDateTime
dates_from set local second next =
    map (λ span. at_offset local (total_of_span set span)) (spans_from (schedule_of set) second next (length set.others + 1 - next))
