-- What is left to give of the date-times of a local time.
use Rattle.std.specs.Prelude.{List}
use Rattle.civil_base.specs.declared.offset_date_time.OffsetDateTime.{OffsetDateTime}
use Rattle.tz_lookup.specs.{Cursors.{dates_to_scan}, declared.instants.InstantsIn.{InstantsIn}, declared.lookups.SpanTable.{Ghosts}}

-- those at the spans that contain the local second, from the next one on
abbrev pub dates_left : {S : Type 0} {table : Ghosts S} → InstantsIn S table → List OffsetDateTime
dates_left {table = table} left = dates_to_scan (table.seen left.set.now) left.scan
