-- What is still to give of the date-times of a local time, in a set of spans.
use Rattle.std.specs.Prelude.{List}
use Rattle.civil_base.specs.declared.offset_date_time.OffsetDateTime.{OffsetDateTime}
use Rattle.tz_lookup.specs.{Answers.{listed}, Dates.{dates_from}, declared.time_zone.SpanCursor.{SpanCursor}, declared.time_zone.SpanCursor.TheVariants.{Found, Sought}, declared.time_zone.SpanScan.{SpanScan}, declared.set.FixedTimespanSet.{FixedTimespanSet}}

-- those at the spans that contain the local second, from the next one on
abbrev pub dates_to_scan : FixedTimespanSet → SpanScan → List OffsetDateTime
dates_to_scan set scan = dates_from set scan.local scan.second scan.next

-- those that were found, or those that are to be looked for
abbrev pub cursor_left : FixedTimespanSet → SpanCursor → List OffsetDateTime
cursor_left set (Found dates) = listed dates
cursor_left set (Sought scan) = dates_to_scan set scan
