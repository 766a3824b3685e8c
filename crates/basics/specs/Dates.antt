-- The date of a day number: the last year, the last month of it and the last day of that month that begin at or before the day.
use Rattle.std.specs.Prelude.{ℕ, zero, suc, Bool, if◌then◌else◌, ℤ, pos, ◌-ℤ◌, int_le}
use Rattle.basics.specs.Days.{day}

-- the greatest number up to n that passes the test, or 0
unfoldable pub last_with : (ℕ → Bool) → ℕ → ℕ
last_with test zero = 0
last_with test (suc n) = if test (suc n) then suc n else last_with test n

-- the year, of the years -10000 to 10000
unfoldable pub year_of : ℤ → ℤ
year_of k = pos (last_with (λ n. int_le (day (pos n -ℤ pos 10000) 1 1) k) 20000) -ℤ pos 10000

unfoldable pub month_of : ℤ → ℕ
month_of k = last_with (λ m. int_le (day (year_of k) m 1) k) 12

unfoldable pub day_of : ℤ → ℕ
day_of k = last_with (λ d. int_le (day (year_of k) (month_of k) d) k) 31
