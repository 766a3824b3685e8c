-- The last year of a set, 2099 by its own clocks of standard time, and the entries in it.
use Rattle.std.specs.{Prelude.{Bool, ◌&&◌, List, [], ◌∷◌, filter, if◌then◌else◌, ℤ, pos, ◌+ℤ◌, ◌-ℤ◌, int_le, int_lt}, Ordering.{int_eq}}
use Rattle.zone_spans.specs.{Entries.{Entry, total}, declared.span.FixedTimespan.{FixedTimespan}}
use Rattle.tz_lookup.specs.{declared.set.FixedTimespanSet.{FixedTimespanSet}, YearSeconds.{last_year_begin, rules_end}}

-- 2099-01-01 00:00:00 and 2100-01-01 00:00:00, as seconds from 1970-01-01 00:00:00
abbrev pub year_begin : ℤ
year_begin = last_year_begin

abbrev pub year_end : ℤ
year_end = rules_end

-- 2099-01-08 00:00:00
abbrev pub second_week : ℤ
second_week = year_begin +ℤ pos 604800

-- the span of the last entry, else the first
abbrev pub last_span : FixedTimespan → List Entry → FixedTimespan
last_span first [] = first
last_span first (entry ∷ entries) = last_span entry.1 entries

-- the span of the last entry at or before a second, else the first
abbrev pub span_from : FixedTimespan → List Entry → ℤ → FixedTimespan
span_from first entries second = last_span first (filter (λ (entry : Entry). int_le entry.0 second) entries)

-- the standard offset in force at the beginning of 2100 in UTC
unfoldable pub standard_of : FixedTimespanSet → ℤ
standard_of set = (span_from set.first set.others year_end).utc_offset

-- the entries from a second up to, without, another
abbrev pub entries_between : List Entry → ℤ → ℤ → List Entry
entries_between entries low high = filter (λ (entry : Entry). int_le low entry.0 && int_lt entry.0 high) entries

-- a set is steady, where one span is in force all the last year; yearly, where daylight saving time starts with one entry of it and
-- ends with another; or neither
pub data Form : Type 0 where
  steady : FixedTimespan → Form
  yearly : Entry → Entry → Form
  other : Form

abbrev pub is_start : ℤ → FixedTimespan → Bool
is_start offset span = int_eq span.utc_offset offset && int_lt (pos 0) span.dst_offset

abbrev pub is_end : ℤ → FixedTimespan → Bool
is_end offset span = int_eq span.utc_offset offset && int_eq span.dst_offset (pos 0)

-- Daylight saving time starts with one entry and ends with another, in the year by its own clocks too.
abbrev pub are_start_and_end : ℤ → Entry → Entry → Bool
are_start_and_end offset start end = is_start offset start.1 && is_end offset end.1 && int_lt (end.0 +ℤ total start.1) year_end

-- of two entries
abbrev pub form_of_two : ℤ → Entry → Entry → Form
form_of_two offset x y =
    if are_start_and_end offset x y then yearly x y else (if are_start_and_end offset y x then yearly y x else other)

-- of the span in force as the last year begins, and the entries in it, whose times don't fall
abbrev pub form_of : ℤ → FixedTimespan → List Entry → Form
form_of offset span [] = steady span
form_of offset span (x ∷ []) = other
form_of offset span (x ∷ y ∷ []) = if int_lt x.0 y.0 then form_of_two offset x y else other
form_of offset span (x ∷ y ∷ z ∷ entries) = other

unfoldable pub form : FixedTimespanSet → Form
form set =
    let offset = standard_of set in
    form_of offset (span_from set.first set.others (year_begin -ℤ offset))
    (entries_between set.others (year_begin -ℤ offset) (year_end -ℤ offset))
