-- The days of a month that rules and ends name.
use Rattle.std.specs.{Prelude.{ℕ, ◌==◌, ℤ, pos, Bool, false, ◌&&◌, not, List, Option, Some, None, Result, Ok, Err, ok_or, if◌then◌else◌}, Option.{option_map_or}, Ordering.{int_eq}}
use Rattle.basics.specs.{Days.{days_in_month, is_leap}, Marks.{after_mark, cut}}
use Rattle.zone_table.specs.{Months.{month_number}, declared.day.DaySpec.{DaySpec}, declared.day.DaySpec.TheVariants.{Ordinal, Last, LastOnOrBefore, FirstOnOrAfter}, declared.month.Month.{Month}, declared.weekday.Weekday.{Weekday}, declared.year.Year.{Year}, declared.year.Year.TheVariants.{Minimum, Maximum, Number}, Results.{◌>>=◌}}
use Rattle.zone_plain_lines.specs.{Columns.{is_after}, Numbers.{number_between}, Words.{weekday_of, last_weekday_of}, declared.cause.PlainCause.{PlainCause}}
use Rattle.zone_plain_lines.specs.declared.cause.PlainCause.TheVariants as cause

-- the number is that of February 29, which leap years alone have
abbrev pub is_leap_day : Month → ℤ → Bool
is_leap_day month number = month_number month == 2 && int_eq number (pos 29)

-- the most days that the month has, as in the leap year 2000
abbrev pub longest : Month → ℕ
longest month = days_in_month (pos 2000) (month_number month)

-- a number from 1 to that
unfoldable pub day_number : Month → List ℕ → Result ℤ PlainCause
day_number month text = option_map_or (λ number. Ok (pos number)) (number_between 1 (longest month) text) (Err cause.Day)

-- a weekday before `<` or `>`, and a number after the `=` that follows
unfoldable pub side_of : Month → List ℕ → List ℕ → Result (Weekday × ℤ) PlainCause
side_of month word rest = do
  weekday ← ok_or (weekday_of word) cause.Day
  digits ← ok_or (after_mark 61 rest) cause.Day
  number ← day_number month digits
  Ok (weekday, number)

-- a weekday up to February 29 is the last of the month, in a common year up to the 28th
abbrev pub up_to : Month → Weekday → ℤ → DaySpec
up_to month weekday number = if is_leap_day month number then Last weekday else LastOnOrBefore weekday number

abbrev pub on_or_before : Month → List ℕ → List ℕ → Result DaySpec PlainCause
on_or_before month word rest = do
  side ← side_of month word rest
  Ok (up_to month side.0 side.1)

abbrev pub on_or_after : Month → List ℕ → List ℕ → Result DaySpec PlainCause
on_or_after month word rest = do
  side ← side_of month word rest
  Ok (FirstOnOrAfter side.0 side.1)

abbrev pub numbered : Month → List ℕ → Result DaySpec PlainCause
numbered month text = do
  number ← day_number month text
  Ok (Ordinal number)

unfoldable pub sided : Month → List ℕ → Result DaySpec PlainCause
sided month text = option_map_or (λ parts. on_or_before month parts.0 parts.1) (cut 60 text)
    (option_map_or (λ parts. on_or_after month parts.0 parts.1) (cut 62 text) (numbered month text))

-- `last` and a weekday, a weekday on one side of a number, or a number
unfoldable pub day_of : Month → List ℕ → Result DaySpec PlainCause
day_of month text = option_map_or (λ weekday. Ok (Last weekday)) (last_weekday_of text) (sided month text)

-- ---- days that not every year has

-- the day is February 29, or a weekday from it on
abbrev pub needs_leap_day : Month → DaySpec → Bool
needs_leap_day month (Ordinal number) = is_leap_day month number
needs_leap_day month (Last weekday) = false
needs_leap_day month (LastOnOrBefore weekday number) = false
needs_leap_day month (FirstOnOrAfter weekday number) = is_leap_day month number

abbrev pub is_leap_year : Year → Bool
is_leap_year Minimum = false
is_leap_year (Number year) = is_leap year
is_leap_year Maximum = false

-- years from the first to the last, if there is one beside it, are one leap year; of two years in a row one is a common year
abbrev pub are_leap_years : Year → Option Year → Bool
are_leap_years first None = is_leap_year first
are_leap_years first (Some last) = is_leap_year first && not (is_after last first)

-- each of the years has the day
unfoldable pub if_there : Year → Option Year → Month → DaySpec → Result (Unit {0}) PlainCause
if_there first last month day = if needs_leap_day month day && not (are_leap_years first last) then Err cause.Day else Ok tt
