-- The days that rules and ends name.
use Rattle.std.specs.Prelude.{ℕ, ◌==◌, ℤ, pos, ◌+ℤ◌, ◌-ℤ◌, nat_abs, int_le, int_lt, Bool, true, ◌&&◌, Option, Some, None, if◌then◌else◌}
use Rattle.basics.specs.{Days.{day, days_in_month}, Dates.{last_with, month_of, day_of}, Weekdays.{weekday_of}}
use Rattle.zone_table.specs.{Months.{month_number, month_numbered}, Weekdays.{weekday_number}, declared.day.DaySpec.{DaySpec}, declared.day.DaySpec.TheVariants.{Ordinal, Last, LastOnOrBefore, FirstOnOrAfter}, declared.month.Month.{Month}}

-- of the seven days from k on, the one with the weekday: the least such day at least k
unfoldable pub first_from : ℕ → ℤ → ℤ
first_from weekday k = k +ℤ pos (last_with (λ n. weekday_of (k +ℤ pos n) == weekday) 6)

-- of the seven days up to k, the one with the weekday: the greatest such day at most k
abbrev pub last_up_to : ℕ → ℤ → ℤ
last_up_to weekday k = first_from weekday (k -ℤ pos 6)

-- the day that is named in a month, by its day number; a number past the month's end counts on
unfoldable pub named_day : DaySpec → ℤ → Month → ℤ
named_day (Ordinal n) y m = day y (month_number m) (nat_abs n)
named_day (Last w) y m = last_up_to (weekday_number w) (day y (month_number m) (days_in_month y (month_number m)))
named_day (LastOnOrBefore w n) y m = last_up_to (weekday_number w) (day y (month_number m) (nat_abs n))
named_day (FirstOnOrAfter w n) y m = first_from (weekday_number w) (day y (month_number m) (nat_abs n))

abbrev pub is_day_of_month : ℤ → Bool
is_day_of_month n = int_le (pos 1) n && int_le n (pos 31)

-- a number in it is from 1 to 31
abbrev pub has_day_of_month : DaySpec → Bool
has_day_of_month (Ordinal n) = is_day_of_month n
has_day_of_month (Last w) = true
has_day_of_month (LastOnOrBefore w n) = is_day_of_month n
has_day_of_month (FirstOnOrAfter w n) = is_day_of_month n

unfoldable pub is_in_year : ℤ → ℤ → Bool
is_in_year k y = int_le (day y 1 1) k && int_lt k (day (y +ℤ pos 1) 1 1)

-- an ordinal's month and number as written, else the true month and day
unfoldable pub written : DaySpec → Month → ℤ → Month × ℤ
written (Ordinal n) m k = (m, n)
written _ m k = (month_numbered (month_of k), pos (day_of k))

-- none where the named day lies in another year
unfoldable pub concrete_day : DaySpec → ℤ → Month → Option (Month × ℤ)
concrete_day spec y m = if is_in_year (named_day spec y m) y then Some (written spec m (named_day spec y m)) else None
