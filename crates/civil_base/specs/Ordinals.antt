-- Days of a year by their places in it.
use Rattle.std.specs.Prelude.{ℕ, ◌+◌, ◌-◌, ◌≤◌, ℤ, pos, ◌+ℤ◌}
use Rattle.basics.specs.{Days.{day, days_in_year, days_into_year}, Dates.{year_of, month_of, day_of}}

-- the year has that many days
pub record IsOrdinal (y : ℤ) (n : ℕ) : Type 0 where
  pub first : 1 ≤ n
  pub last : n ≤ days_in_year y

-- the day number of the nth day of the year
unfoldable pub ordinal_day : ℤ → ℕ → ℤ
ordinal_day y n = day y 1 1 +ℤ pos (n - 1)

-- the place of a day in its year
unfoldable pub ordinal_of : ℤ → ℕ
ordinal_of k = days_into_year (year_of k) (month_of k) (day_of k) + 1
