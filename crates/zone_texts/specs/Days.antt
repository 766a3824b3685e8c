-- The days of an alarm.
use Rattle.std.specs.{Prelude.{ℕ, ◌+◌, ◌*◌, ◌/◌, ◌%◌, ◌==◌, Bool, false, ◌&&◌, List, map, Option, Some, None, slice_index_or, ℤ, pos, ◌+ℤ◌, ◌-ℤ◌, int_le, int_lt, unsigned_abs, if◌then◌else◌}, List.{range_with_len}}
use Rattle.basics.specs.Weekdays.{weekday_of}
use Rattle.civil_base.specs.Ranges.{first_day, last_day}
use Rattle.zone_words.specs.Tasks.{AlarmAsked}

-- from each day to the next, so many days, and one at least
abbrev pub step_of : ℕ → ℕ
step_of every = if every == 0 then 1 else every

-- the last day where it is told; else one so late that the last day up to it lies past the years
abbrev pub last_of : Option ℤ → ℕ → ℤ
last_of (Some day) step = day
last_of None step = last_day +ℤ pos step

-- how many days there are from one up to another, so far apart
abbrev pub count_between : ℤ → ℤ → ℕ → ℕ
count_between first last step = if int_lt last first then 0 else unsigned_abs (last -ℤ first) / step + 1

-- the day after so many steps
abbrev pub day_after : ℤ → ℕ → ℕ → ℤ
day_after first step n = first +ℤ pos (n * step)

-- the days from one up to another, so far apart
unfoldable pub days_between : ℤ → ℤ → ℕ → List ℤ
days_between first last step = map (day_after first step) (range_with_len 0 (count_between first last step))

-- the first day and each so many days after, up to the last
abbrev pub days_of : AlarmAsked → List ℤ
days_of alarm = days_between alarm.first (last_of alarm.until (step_of alarm.every)) (step_of alarm.every)

-- it is a date of the years -9999 to 9999
abbrev pub is_dated : ℤ → Bool
is_dated day = int_le first_day day && int_le day last_day

-- its weekday is one of those, which are told from Monday on
unfoldable pub is_on : List Bool → ℤ → Bool
is_on days day = slice_index_or days ((weekday_of day + 6) % 7) false
