-- The Gregorian calendar, for all years, by counting. The year before 1 is 0, and the year before that is -1.
use Rattle.std.specs.Prelude.{ℕ, zero, suc, ◌+◌, ◌-◌, ◌%◌, ◌≤◌, Bool, not, ◌&&◌, ◌||◌, ◌==◌, if◌then◌else◌, ℤ, pos, negsuc, neg_ℤ, ◌+ℤ◌, ◌-ℤ◌, ◌≤ℤ◌, unsigned_abs}

-- the year is a multiple of n
abbrev pub is_multiple : ℤ → ℕ → Bool
is_multiple y n = unsigned_abs y % n == 0

-- each fourth year is a leap year, but of the centuries only each fourth
unfoldable pub is_leap : ℤ → Bool
is_leap y = is_multiple y 400 || (is_multiple y 4 && not (is_multiple y 100))

unfoldable pub days_in_year : ℤ → ℕ
days_in_year y = if is_leap y then 366 else 365

-- April, June, September and November
abbrev pub has_thirty_days : ℕ → Bool
has_thirty_days m = m == 4 || m == 6 || m == 9 || m == 11

unfoldable pub days_in_month : ℤ → ℕ → ℕ
days_in_month y m = if m == 2 then (if is_leap y then 29 else 28) else (if has_thirty_days m then 30 else 31)

-- the days of the years 0 to n - 1
unfoldable pub days_after_zero : ℕ → ℕ
days_after_zero zero = 0
days_after_zero (suc n) = days_after_zero n + days_in_year (pos n)

-- the days of the years -n to -1
unfoldable pub days_before_zero : ℕ → ℕ
days_before_zero zero = 0
days_before_zero (suc n) = days_before_zero n + days_in_year (negsuc n)

-- the day on which the year begins, where the year 0 begins on day 0
unfoldable pub year_start : ℤ → ℤ
year_start (pos n) = pos (days_after_zero n)
year_start (negsuc n) = neg_ℤ (pos (days_before_zero (suc n)))

-- the days of the year's first n months
unfoldable pub days_through : ℤ → ℕ → ℕ
days_through y zero = 0
days_through y (suc n) = days_through y n + days_in_month y (suc n)

-- the days of the year that lie before the day d of the month m
unfoldable pub days_into_year : ℤ → ℕ → ℕ → ℕ
days_into_year y m d = days_through y (m - 1) + (d - 1)

-- the day number of a date: 0 is 1970-01-01
unfoldable pub day : ℤ → ℕ → ℕ → ℤ
day y m d = year_start y +ℤ pos (days_into_year y m d) -ℤ year_start (pos 1970)

-- the calendar has the day d in the month m of the year y
pub record IsDate (y : ℤ) (m d : ℕ) : Type 0 where
  pub first_month : 1 ≤ m
  pub last_month : m ≤ 12
  pub first_day : 1 ≤ d
  pub last_day : d ≤ days_in_month y m

-- a year that the fast functions count in
pub record IsCountedYear (y : ℤ) : Type 0 where
  pub first : neg_ℤ (pos 10000) ≤ℤ y
  pub last : y ≤ℤ pos 10000
