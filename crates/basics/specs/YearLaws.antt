-- The days of years in closed form.
use Rattle.std.proofs.{Common.{◌≡◌, ℕ, zero, suc, ◌+◌, ◌-◌, ◌*◌, ◌/◌, ◌≤◌, Bool, cond, refl, arith, ℤ, pos, negsuc, ◌+ℤ◌, unsigned_abs}, lemmas.Bool.Decides.{nat_tests}}
use Rattle.basics.specs.{Days.{is_leap, days_in_year, days_after_zero, days_before_zero, year_start, day, days_into_year, days_through}, Cycles.{cycle_days}, SignedLaws.{signed}}

-- the day that a leap year has more
abbrev leap_day_of : Bool → ℕ
leap_day_of leap = cond leap 1 0

days_in_year-leap : (y : ℤ) → days_in_year y ≡ 365 + leap_day_of (is_leap y)
unfolding days_in_year
days_in_year-leap y = grind arith

-- a leap year is one more multiple of 4, less the one of 100, with the one of 400
leap_counts : (y : ℤ) (n : ℕ) → unsigned_abs y ≡ n → leap_day_of (is_leap y) + (n + 3) / 4 + n / 100 + (n + 399) / 400 ≡ n / 4 + 1 +
    (n + 99) / 100 + n / 400
unfolding is_leap
leap_counts y n e = grind (arith, nat_tests)

days_after_zero-suc : (n : ℕ) → days_after_zero (suc n) ≡ days_after_zero n + 365 + leap_day_of (is_leap (pos n))
unfolding days_after_zero
days_after_zero-suc n = omega (arith, days_in_year-leap (pos n))

days_before_zero-suc : (n : ℕ) → days_before_zero (suc n) ≡ days_before_zero n + 365 + leap_day_of (is_leap (negsuc n))
unfolding days_before_zero
days_before_zero-suc n = omega (arith, days_in_year-leap (negsuc n))

-- the days of the years from 0 on, by the multiples of 4, 100 and 400 among them
pub days_after_zero-count : (n : ℕ) → days_after_zero n + (n + 99) / 100 ≡ 365 * n + (n + 3) / 4 + (n + 399) / 400
days_after_zero-count zero = unfold days_after_zero in refl
days_after_zero-count (suc n) =
    omega (arith, days_after_zero-count n, days_after_zero-suc n, leap_counts (pos n) n refl)

pub days_before_zero-count : (n : ℕ) → days_before_zero n + n / 100 ≡ 365 * n + n / 4 + n / 400
days_before_zero-count zero = unfold days_before_zero in refl
days_before_zero-count (suc n) =
    omega (arith, days_before_zero-count n, days_before_zero-suc n, leap_counts (negsuc n) (suc n) refl)

-- years counted from the year -11999 on
pub year_start-cycle : (y : ℤ) (n : ℕ) → y +ℤ pos 11999 ≡ pos n → year_start y +ℤ pos 4382544 ≡ pos (cycle_days n)
unfolding year_start
year_start-cycle (pos a) n e = omega (arith, signed, days_after_zero-count a)
year_start-cycle (negsuc a) n e = omega (arith, signed, days_before_zero-count (suc a))

days_through-none : (y : ℤ) → days_through y 0 ≡ 0
unfolding days_through
days_through-none y = refl

-- a date is its year's start and its place in the year
pub day-cycle : (y : ℤ) (m d n : ℕ) → y +ℤ pos 11999 ≡ pos n → day y m d +ℤ pos 5102072 ≡ pos
    (cycle_days n + days_through y (m - 1) + (d - 1))
unfolding day days_into_year
day-cycle y m d n e =
    omega (arith, signed, year_start-cycle y n e, year_start-cycle (pos 1970) 13969 refl)

pub cycle_days-rise : (i j : ℕ) → i ≤ j → cycle_days i ≤ cycle_days j
cycle_days-rise i j h = omega arith

-- a year has the days that the counts of years differ by
pub cycle_days-suc : (y : ℤ) (n : ℕ) → y +ℤ pos 11999 ≡ pos n → cycle_days (suc n) ≡ cycle_days n + days_in_year y
cycle_days-suc (pos a) n e =
    let same : n ≡ a + 11999 = omega (arith, signed) in
    omega (arith, leap_counts (pos a) a refl, days_in_year-leap (pos a))
cycle_days-suc (negsuc a) n e =
    let same : n + suc a ≡ 11999 = omega (arith, signed) in
    omega (arith, leap_counts (negsuc a) (suc a) refl, days_in_year-leap (negsuc a))

pub days_in_year-cases : (y : ℤ) → days_in_year y ≡ cond (is_leap y) 366 365
unfolding days_in_year
days_in_year-cases y = refl
