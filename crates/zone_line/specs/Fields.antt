-- The values of a line's columns, each a value or a fault.
use Rattle.std.specs.{Prelude.{ℕ, ℤ, List, [], ◌∷◌, take, drop, Bool, ◌||◌, Option, Some, None, option_map, option_and_then, ok_or, Result, Ok, Err, codes, bytes_eq, nat_eq, if◌then◌else◌, ◌^◌}, Char.{is_ascii_alphabetic}, List.{list_all}}
use Rattle.std.specs.Option.{option_map_or}
use Rattle.zone_table.specs.{Days.{is_day_of_month}, Faults.{Fault, refused}, declared.fault.FaultKind.TheVariants.{TypeColumnContainedNonHyphen, InvalidDaySpec, InvalidTimeSpecAndType, NonWallClockInTimeSpec}, Results.{◌>>=◌}, Years.{year_field}, Weekdays.{weekday_field}, declared.year.Year.{Year}, declared.weekday.Weekday.{Weekday}, declared.time.TimeSpec.{TimeSpec}, declared.time.TimeSpecAndType.{TimeSpecAndType}, declared.day.DaySpec.{DaySpec}, declared.day.DaySpec.TheVariants.{Ordinal, Last, LastOnOrBefore, FirstOnOrAfter}}
use Rattle.basics.specs.Numbers.{is_numeral, signed_in}
use Rattle.zone_line.specs.{Times.{time_of, if_wall}, DayColumns.{DayTexts, day_columns}}

-- the last year of a rule: `only` is none of its own
unfoldable pub to_field : List ℕ → Result (Option Year) Fault
to_field text = if bytes_eq text (codes "only") then Ok None else (do
  year ← year_field text
  Ok (Some year))

-- a hyphen, of ASCII or U+2010
abbrev pub type_field : List ℕ → Result (Unit {0}) Fault
type_field text =
    if bytes_eq text (codes "-") || bytes_eq text (226 ∷ 128 ∷ 144 ∷ []) then Ok tt
    else Err (refused TypeColumnContainedNonHyphen text)

-- a hyphen is no letters
abbrev pub letters_of : List ℕ → Option (List ℕ)
letters_of text = if bytes_eq text (codes "-") then None else Some text

abbrev pub time_field : List ℕ → Result TimeSpecAndType Fault
time_field text = ok_or (time_of text) (refused InvalidTimeSpecAndType text)

-- a time that has to be the wall's
unfoldable pub wall_field : List ℕ → Result TimeSpec Fault
wall_field text = do
  time ← time_field text
  ok_or (if_wall time) (refused NonWallClockInTimeSpec text)

-- the number that Rust reads, where it is from 1 to 31
abbrev pub day_numbered : List ℕ → Option ℤ
day_numbered text = option_and_then (λ n. if is_day_of_month n then Some n else None) (signed_in (2 ^ 7) text)

-- 1 to 31, by ASCII digits alone
abbrev pub day_of_month : List ℕ → Option ℤ
day_of_month text = if is_numeral text then day_numbered text else None

-- the day on or before or the day on or after, by the sign
abbrev pub sided : List ℕ → Weekday → ℤ → DaySpec
sided sign weekday number =
    if bytes_eq sign (codes "<=") then LastOnOrBefore weekday number else FirstOnOrAfter weekday number

-- the weekday is read before the number
unfoldable pub sided_day : List ℕ → DayTexts → Result DaySpec Fault
sided_day text columns = do
  weekday ← weekday_field columns.weekday
  number ← ok_or (day_of_month columns.day) (refused InvalidDaySpec text)
  Ok (sided columns.sign weekday number)

-- the last such weekday of the month
unfoldable pub last_weekday : List ℕ → Result DaySpec Fault
last_weekday text = do
  weekday ← weekday_field text
  Ok (Last weekday)

-- what follows `last` in a text that begins with it
abbrev pub after_last : List ℕ → Option (List ℕ)
after_last text = if bytes_eq (take 4 text) (codes "last") then Some (drop 4 text) else None

-- a number, `last` and a weekday, or a weekday on one side of a number
unfoldable pub day_field : List ℕ → Result DaySpec Fault
day_field text =
    if is_numeral text then ok_or (option_map Ordinal (day_numbered text)) (refused InvalidDaySpec text)
    else option_map_or last_weekday (after_last text) (
    option_map_or (sided_day text) (day_columns text) (Err (refused InvalidDaySpec text)))

-- ASCII letters, hyphens and underscores alone
abbrev pub is_ruleset_name : List ℕ → Bool
is_ruleset_name text = list_all (λ c. nat_eq c 45 || nat_eq c 95 || is_ascii_alphabetic c) text
