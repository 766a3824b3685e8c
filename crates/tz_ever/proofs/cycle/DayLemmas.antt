-- The calendar repeats after 400 years, which are 146,097 days or 20,871 weeks.
use Rattle.std.proofs.Common.{◌≡◌, ℤ, pos, neg_ℤ, refl, sym, ◌∙◌, Bool, true, false, cond, ℕ, zero, suc, arith, ◌+ℤ◌, ◌≤ℤ◌, ◌+◌, ◌-◌, unsigned_abs}
use Rattle.basics.specs.{Cycles.{cycle_days}, Days.{days_through, day, is_leap, days_in_month, days_in_year}, SignedLaws.{signed, natural, floored}, Weekdays.{weekday_of}, YearLaws.{cycle_days-suc, day-cycle, days_in_year-cases}}
use Rattle.zone_spans.specs.Cycle.{days_on, next_cycle}

cycle_days-repeats : (n : ℕ) → cycle_days (n + 400) ≡ cycle_days n + 146097
cycle_days-repeats n = omega arith

-- the place of a year among those from -11999 on, and of the same year of the next cycle
place : (y : ℤ) → neg_ℤ (pos 11999) ≤ℤ y → y +ℤ pos 11999 ≡ pos (unsigned_abs (y +ℤ pos 11999))
place y h = natural (y +ℤ pos 11999) (omega (arith, signed, h))

next_place : (y : ℤ) → neg_ℤ (pos 11999) ≤ℤ y → next_cycle y +ℤ pos 11999 ≡ pos (unsigned_abs (y +ℤ pos 11999) + 400)
next_place y h = let here = place y h in omega (arith, signed)

days_in_year-repeats : (y : ℤ) → neg_ℤ (pos 11999) ≤ℤ y → days_in_year (next_cycle y) ≡ days_in_year y
days_in_year-repeats y h =
    let n = unsigned_abs (y +ℤ pos 11999) in
    omega (
      arith,
      cycle_days-suc y n (place y h),
      cycle_days-suc (next_cycle y) (n + 400) (next_place y h),
      cycle_days-repeats n,
      cycle_days-repeats (suc n),
    )

abbrev year_length : Bool → ℕ
year_length leap = cond leap 366 365

by_days : (a b : Bool) → year_length a ≡ year_length b → a ≡ b
by_days true true e = refl
by_days true false e = absurd (omega (arith, e))
by_days false true e = absurd (omega (arith, e))
by_days false false e = refl

is_leap-repeats : (y : ℤ) → neg_ℤ (pos 11999) ≤ℤ y → is_leap (next_cycle y) ≡ is_leap y
is_leap-repeats y h =
    by_days (is_leap (next_cycle y)) (is_leap y) (sym (days_in_year-cases (next_cycle y)) ∙ days_in_year-repeats y h ∙ days_in_year-cases y)

pub month-repeats : (y : ℤ) (m : ℕ) → neg_ℤ (pos 11999) ≤ℤ y → days_in_month (next_cycle y) m ≡ days_in_month y m
unfolding days_in_month
month-repeats y m h = rw (is_leap-repeats y h)

days_through-repeats : (y : ℤ) (n : ℕ) → neg_ℤ (pos 11999) ≤ℤ y → days_through (next_cycle y) n ≡ days_through y n
unfolding days_through
days_through-repeats y zero h = refl
days_through-repeats y (suc n) h = rw (days_through-repeats y n h, month-repeats y (suc n) h)

pub date-repeats : (y : ℤ) (m d : ℕ) → neg_ℤ (pos 11999) ≤ℤ y → day (next_cycle y) m d ≡ days_on (day y m d)
date-repeats y m d h =
    let n = unsigned_abs (y +ℤ pos 11999) in
    omega (
      arith,
      signed,
      day-cycle y m d n (place y h),
      day-cycle (next_cycle y) m d (n + 400) (next_place y h),
      days_through-repeats y (m - 1) h,
      cycle_days-repeats n,
    )

-- and so from the year 0 on
pub days_in_month-repeats : (y : ℤ) (m : ℕ) → pos 0 ≤ℤ y → days_in_month (next_cycle y) m ≡ days_in_month y m
days_in_month-repeats y m h = month-repeats y m (omega (arith, signed, h))

pub day-repeats : (y : ℤ) (m d : ℕ) → pos 0 ≤ℤ y → day (next_cycle y) m d ≡ days_on (day y m d)
day-repeats y m d h = date-repeats y m d (omega (arith, signed, h))

pub weekday_of-repeats : (k : ℤ) → weekday_of (days_on k) ≡ weekday_of k
unfolding weekday_of
weekday_of-repeats k = omega (arith, signed, floored (k +ℤ pos 4) 7, floored (days_on k +ℤ pos 4) 7)

pub ruleset cycle_laws = (day-repeats, weekday_of-repeats)
