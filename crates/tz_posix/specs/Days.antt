-- The days that the dates of rules name, by counting days and weekdays.
use Rattle.std.specs.{Prelude.{ℕ, ◌+◌, ◌-◌, ◌*◌, ◌<◌, ◌≤◌, ◌≡◌, Bool, ◌&&◌, ◌==◌, nat_lt, nat_le, Option, Some, None, if◌then◌else◌, ℤ, pos, ◌+ℤ◌}, Ordering.{int_eq}}
use Rattle.basics.specs.{Dates.{last_with, month_of, day_of}, Days.{day, days_in_month, days_in_year}, Weekdays.{weekday_of}}
use Rattle.tz_posix.specs.declared.{date.Date.{Date}, date.Date.TheVariants.{J, N, M}, error.Error.{Error}, error.Error.TheVariants.{ComponentRange, DateTooLarge}}

-- the day whose month and day are those of the nth day of 1970, a year without February 29 that begins on day 0
unfoldable pub julian_day : ℤ → ℕ → ℤ
julian_day y n = day y (month_of (pos (n - 1))) (day_of (pos (n - 1)))

-- the days in which the nth weekday of a month is the last: n weeks, or, for the fifth, the month
abbrev pub days_with_nth : ℤ → ℕ → ℕ → ℕ
days_with_nth y m n = if n == 5 then days_in_month y m else 7 * n

-- the day of the month that is the nth of them with the weekday, where Sunday is 0; the fifth is the last
unfoldable pub nth_weekday : ℤ → ℕ → ℕ → ℕ → ℕ
nth_weekday y m n weekday = last_with (λ d. weekday_of (day y m d) == weekday) (days_with_nth y m n)

-- the day number of a rule's date in a year
unfoldable pub rule_day : Date → ℤ → ℤ
rule_day (J n) y = julian_day y n
rule_day (N n) y = day y 1 1 +ℤ pos n
rule_day (M m n d) y = day y m (nth_weekday y m n d)

abbrev pub is_last_month : ℤ → ℕ → Bool
is_last_month y m = int_eq y (pos 9999) && m == 12

-- a year may lack its 366th day, and in the last month that dates have the first weekday and 28 days may lie past the end
unfoldable pub day_refusal : Date → ℤ → Option Error
day_refusal (J n) y = None
day_refusal (N n) y = if nat_le (days_in_year y) n then Some ComponentRange else None
day_refusal (M m n d) y =
    if is_last_month y m && n == 5 && nat_lt 31 (nth_weekday y m 1 d + 28) then Some DateTooLarge else None

-- the nth is n - 1 weeks after the first, and the last is the fifth or the fourth
pub record IsNth (y : ℤ) (m n first i : ℕ) : Type 0 where
  pub whole : n < 5 → i + 7 ≡ first + 7 * n
  pub fifth : n ≡ 5 → first + 28 ≤ days_in_month y m → i ≡ first + 28
  pub fourth : n ≡ 5 → days_in_month y m < first + 28 → i ≡ first + 21
