-- The footers that are tried for a set, by number: each names the entries of one year by days and times of its own.
use Rattle.std.specs.{Prelude.{ℕ, suc, ◌+◌, ◌-◌, ◌/◌, ◌%◌, Bool, not, ◌&&◌, ◌==◌, nat_le, nat_lt, List, [], ◌∷◌, ◌++◌, codes, Option, Some, None, if◌then◌else◌, ℤ, pos, neg_ℤ, ◌+ℤ◌, ◌-ℤ◌, ◌*ℤ◌, int_le, int_lt, unsigned_abs}, Fmt.{decimal}}
use Rattle.std.specs.{Int.{int_div_euclid, int_rem_euclid}, Ordering.{int_eq}}
use Rattle.basics.specs.{Dates.{day_of, month_of, year_of}, Days.{day as day_number, days_in_month}, Weekdays.{weekday_of}}
use Rattle.zone_spans.specs.Entries.{Entry, total}
use Rattle.tz_lookup.specs.{Sets.{shifts_of, span_in}, Spans.{Shift}, declared.set.FixedTimespanSet.{FixedTimespanSet}}
use Rattle.zone_tail.specs.{LastYear.{Form, steady, yearly, other}, Shapes.{entry_in}, Tails.{can_be_written, is_posix_name}, Texts.{name_text, offset_text, saving_text, time_text}}
use Rattle.zone_tzif.specs.{Agreement.{cycle_begin}, declared.outcome.EverTailFault.{EverTailFault}}
use Rattle.zone_tzif.specs.declared.outcome.EverTailFault.TheVariants as fault

-- ---- the entries of 2102

-- 2103-01-01 00:00:00 UTC
abbrev pub next_year : ℤ
next_year = pos 4197052800

-- how many shifts come before the first at or after a second
unfoldable pub first_from : List Shift → ℤ → ℕ
first_from [] second = 0
first_from (shift ∷ shifts) second = if int_le second shift.0 then 0 else suc (first_from shifts second)

abbrev pub is_of_year : Entry → Bool
is_of_year entry = int_le cycle_begin entry.0 && int_lt entry.0 next_year

-- beside one standard offset daylight saving time starts with one entry and ends with another; its saving may lie below 0
abbrev pub are_start_and_end : Entry → Entry → Bool
are_start_and_end start end =
    int_eq start.1.utc_offset end.1.utc_offset && not (int_eq start.1.dst_offset (pos 0)) && int_eq end.1.dst_offset (pos 0)

abbrev pub form_of_two : Entry → Entry → Form
form_of_two x y =
    if is_of_year x && is_of_year y
    then (if are_start_and_end x y then yearly x y else (if are_start_and_end y x then yearly y x else other))
    else other

-- one span is in force all the year, daylight saving time starts and ends once in it, or neither
unfoldable pub ever_form : FixedTimespanSet → Form
ever_form set =
    let k = first_from (shifts_of set) cycle_begin in
    let n = first_from (shifts_of set) next_year in
    if n == k then steady (span_in set k) else (if n == k + 2 then form_of_two (entry_in set k) (entry_in set (suc k)) else other)

-- ---- why none is tried

abbrev pub named_or : Bool → Option EverTailFault
named_or named = if named then None else Some fault.Name

abbrev pub written_or : Bool → Bool → Option EverTailFault
written_or written named = if written then named_or named else Some fault.OffsetRange

unfoldable pub form_fault : Form → Option EverTailFault
form_fault (steady span) = written_or (can_be_written (total span)) (is_posix_name span.name)
form_fault (yearly start end) =
    written_or (can_be_written (total end.1) && can_be_written (total start.1)) (is_posix_name end.1.name && is_posix_name start.1.name)
form_fault other = Some fault.Shape

abbrev pub ever_fault : FixedTimespanSet → Option EverTailFault
ever_fault set = form_fault (ever_form set)

-- ---- the texts

-- The day by which a change is named lies so many days before it: first the day itself, then, of a change before noon, one of the six
-- before it, and at last one of the seven after it; of a change past noon those after it come first.
abbrev pub days_back : Bool → ℕ → ℤ
days_back is_late n =
    if is_late then (if nat_le n 7 then neg_ℤ (pos n) else pos n -ℤ pos 7) else (if nat_le n 6 then pos n else pos 6 -ℤ pos n)

abbrev pub is_past_noon : ℤ → Bool
is_past_noon local = nat_le 43200 (unsigned_abs (int_rem_euclid local (pos 86400)))

-- a day of the last week is named so or, up to the 28th, by its number; others by their number
abbrev pub week_of : ℕ → ℕ → ℕ → ℕ
week_of length day choice =
    if choice == 0
    then (if nat_lt length (day + 7) then 5 else (day + 6) / 7)
    else (if nat_le ((day + 6) / 7) 4 then (day + 6) / 7 else 5)

-- a time with a sign; 2:00 is left out
unfoldable pub signed_text : ℤ → List ℕ
signed_text time =
    if int_eq time (pos 7200) then []
    else codes "/" ++ (if int_lt time (pos 0) then codes "-" else []) ++ time_text (unsigned_abs time)

abbrev pub parts_text : ℕ → ℕ → ℕ → ℤ → List ℕ
parts_text month week weekday time =
    codes "M" ++ decimal month ++ codes "." ++ decimal week ++ codes "." ++ decimal weekday ++ signed_text time

-- a day number, and the seconds from its midnight
unfoldable pub moment_text : ℤ → ℤ → ℕ → List ℕ
moment_text day time choice =
    parts_text (month_of day) (week_of (days_in_month (year_of day) (month_of day)) (day_of day) choice) (weekday_of day) time

abbrev pub numbered_text : ℕ → ℤ → List ℕ
numbered_text number time = codes "J" ++ decimal number ++ signed_text time

-- the number of a day in its year, which isn't a leap year and stands for all, and the seconds from its midnight
unfoldable pub dated_text : ℤ → ℤ → List ℕ
dated_text day time = numbered_text (unsigned_abs (day -ℤ day_number (year_of day) 1 1) + 1) time

-- such a name, or one by the weekday
abbrev pub named_text : Bool → ℤ → ℤ → ℕ → List ℕ
named_text is_dated day time choice = if is_dated then dated_text day time else moment_text day time choice

-- the name of a local second by number, of 42: two by the weekday of each of 14 days, and then one by the date of each
abbrev pub is_dated : ℕ → Bool
is_dated n = nat_le 28 n

abbrev pub day_by : ℕ → ℕ
day_by n = if is_dated n then n - 28 else n / 2

unfoldable pub change_by : ℤ → ℕ → List ℕ
change_by local n =
    let day = int_div_euclid local (pos 86400) -ℤ days_back (is_past_noon local) (day_by n) in
    named_text (is_dated n) day (local -ℤ pos 86400 *ℤ day) (n % 2)

abbrev pub how_many : ℕ
how_many = 1764

-- standard and daylight saving time, each by its name and its total
abbrev pub totals_for : Entry → Entry → List ℕ
totals_for start end =
    name_text end.1.name ++ offset_text (total end.1) ++ name_text start.1.name ++ saving_text (total end.1) (total start.1)

-- two local seconds, the first by n / 42 and the second by what is left
abbrev pub changes_by : ℤ → ℤ → ℕ → List ℕ
changes_by start end n = codes "," ++ change_by start (n / 42) ++ codes "," ++ change_by end (n % 42)

-- the start is read at the standard offset, the end at that of daylight saving time
unfoldable pub tried_for : Form → ℕ → List ℕ
tried_for (steady span) n = name_text span.name ++ offset_text (total span)
tried_for (yearly start end) n = totals_for start end ++ changes_by (start.0 +ℤ total end.1) (end.0 +ℤ total start.1) n
tried_for other n = []

abbrev pub tried : FixedTimespanSet → ℕ → List ℕ
tried set = tried_for (ever_form set)
