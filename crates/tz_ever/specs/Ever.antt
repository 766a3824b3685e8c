-- What a set of spans shows for ever, where the cycle stands for each later one.
use Rattle.std.specs.Prelude.{◌≡◌, List, map, ℤ}
use Rattle.civil_base.specs.{DateTimes.{at_offset, offset_of}, declared.offset_date_time.OffsetDateTime.{OffsetDateTime}}
use Rattle.zone_spans.specs.{Schedules.{total_at}, declared.span.FixedTimespan.{FixedTimespan}, Cycle.{instant_on}}
use Rattle.tz_ever.specs.{InForce.{span_at}, Seam.{IsAtSeam, brought_back}}
use Rattle.tz_lookup.specs.{Compiles.{spans_of}, Cursors.{cursor_left}, Sets.{schedule_of}, declared.time_zone.SpanCursor.{SpanCursor}, declared.set.FixedTimespanSet.{FixedTimespanSet}}

-- at the seam the set shows what it shows a cycle later
abbrev pub IsRepeating : FixedTimespanSet → Type 0
IsRepeating set = (t : ℤ) → IsAtSeam t → span_at (spans_of set) (instant_on t) ≡ span_at (spans_of set) t

-- what is in force at any instant
unfoldable pub ever_span : FixedTimespanSet → ℤ → FixedTimespan
ever_span set t = span_at (spans_of set) (brought_back t)

-- the total in force
unfoldable pub ever_total : FixedTimespanSet → ℤ → ℤ
ever_total set t = total_at (schedule_of set) (brought_back t)

-- what is still to give of the date-times of a local time: those of the local time that is turned, each at its own offset
unfoldable pub ever_left : FixedTimespanSet → ℤ → SpanCursor → List OffsetDateTime
ever_left set local found = map (λ date. at_offset local (offset_of date)) (cursor_left set found)
