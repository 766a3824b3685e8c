-- What replies see of a zone that is kept open.
use Rattle.std.specs.Prelude.{ℤ, List, map, filter, int_le}
use Rattle.zone_texts.specs.Views.{InForce, ZoneView}
use Rattle.zone_spans.specs.{Entries.{total}, Schedules.{instants}, declared.span.FixedTimespan.{FixedTimespan}}
use Rattle.tz_ever.specs.{Recurrences.{zone_total}, Unrolled.{told}, declared.recurrence.Recurrence.{Recurrence}}
use Rattle.tz_lookup.specs.declared.set.FixedTimespanSet.{FixedTimespanSet}
use Rattle.sefunjaro.specs.{Changes.{last_span, window}, Zones.{last_year}, declared.changes.Change.{Change}, declared.zone.Origin.{Origin}}

abbrev pub force_of : FixedTimespan → InForce
force_of span = record { offset = total span; saving = span.dst_offset; name = span.name }

-- what the last entry up to a second puts in force, or what holds before them all
unfoldable pub span_on : FixedTimespanSet → ℤ → FixedTimespan
span_on set second = last_span set.first (filter (λ entry. int_le entry.0 second) set.others)

-- the seconds of changes that change something
abbrev pub differing : List Change → List ℤ
differing changes = map (λ change. change.second) (filter (λ change. change.differs) changes)

-- a zone of that set, whose changes come again or not
abbrev pub reply_view : Origin → Recurrence → FixedTimespanSet → ZoneView
reply_view origin recurrence set = record {
  total = zone_total recurrence set;
  readings = instants (zone_total recurrence set);
  force = λ second. force_of (span_on (told recurrence set) second);
  changes = λ from to. differing (window (told recurrence set) from to);
  last_year = last_year origin recurrence;
}
