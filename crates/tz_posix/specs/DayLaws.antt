-- The days of a year's dates lie in the years, and the days of a year without February 29.
use Rattle.std.proofs.{Common.{◌≡◌, ℕ, ◌+◌, ◌-◌, ◌<◌, ◌≤◌, cond, true, false, ◌&&◌, nat_le, inl, inr, refl, arith, ℤ, pos, ◌+ℤ◌, ap}, lemmas.Bool.{cases_lt, cases_Bool}, lemmas.Bool.Decides.{nat_tests}}
use Rattle.basics.specs.{Dates.{year_of, month_of, day_of}, DateLaws.{day_parts, day-into_year, day-last_of_year, last_date, year-between}}
use Rattle.basics.specs.{Days.{is_leap, days_in_year, days_in_month, days_after_zero, year_start, days_through, days_into_year, day, IsCountedYear, IsDate}, MonthLaws.{days_in_month-january, days_in_month-february, days_through-late, days_through-two}}
use Rattle.basics.specs.{SignedLaws.{signed}, YearLaws.{days_in_year-cases}}
use Rattle.civil_base.specs.{DayRangeLaws.{counted, date-inside, new_year}, Ranges.{IsDay, IsYear}}
use Rattle.tz_posix.specs.Days.{julian_day}

-- and so have the days counted on from the first of January, as many as the year has
pub counted_day-inside : (y : ℤ) (n : ℕ) → IsYear y → n < days_in_year y → IsDay (day y 1 1 +ℤ pos n)
counted_day-inside y n year few =
    let first = date-inside y 1 1 year (new_year y) in
    let last = date-inside y 12 31 year (last_date y) in
    record { first = omega (arith, signed); last = omega (arith, signed, day-last_of_year y (counted y year)) }

-- 2100-01-01
pub day-2100 : day (pos 2100) 1 1 ≡ pos 47482
unfolding is_leap days_in_year days_in_month days_after_zero year_start days_through days_into_year day
day-2100 = refl

-- ---- 1970 has no February 29, and begins on day 0
common : is_leap (pos 1970) ≡ false
unfolding is_leap
common = refl

common-first : day (pos 1970) 1 1 ≡ pos 0
unfolding is_leap days_in_year days_in_month days_after_zero year_start days_through days_into_year day
common-first = refl

common-last : day (pos 1970) 12 31 ≡ pos 364
unfolding is_leap days_in_year days_in_month days_after_zero year_start days_through days_into_year day
common-last = refl

common-length : days_in_year (pos 1970) ≡ 365
unfolding is_leap days_in_year
common-length = refl

common-counted : IsCountedYear (pos 1970)
common-counted = record { first = omega (arith, signed); last = omega (arith, signed) }

pub record IsInCommon (k m d : ℕ) : Type 0 where
  pub date : IsDate (pos 1970) m d
  pub place : days_into_year (pos 1970) m d ≡ k

in_common : (k : ℕ) → k < 365 → IsInCommon k (month_of (pos k)) (day_of (pos k))
in_common k few =
    let z = pos k in
    let parts = day_parts z (omega (arith, signed)) (omega (arith, signed)) in
    let same = parts.1.number in
    let within = year-between (year_of z) (month_of z) (day_of z) (pos 1970) (pos 1970) parts.0 common-counted common-counted parts.1.date
    (omega (arith, signed, common-first, same)) (omega (arith, signed, common-last, same)) in
    let year : year_of z ≡ pos 1970 = omega (arith, signed, within.0, within.1) in
    let date = rw year at parts.1.date in
    let number = rw year at same in
    record {
      date = date;
      place = omega (
        arith,
        signed,
        number,
        common-first,
        day-into_year (pos 1970) (month_of z) (day_of z) common-counted,
      );
    }

common-month : (y : ℤ) (m : ℕ) → days_in_month (pos 1970) m ≤ days_in_month y m
unfolding days_in_month
common-month y m = grind (arith, nat_tests, common)

-- its dates are dates of every year
common-date : (y : ℤ) (m d : ℕ) → IsDate (pos 1970) m d → IsDate y m d
common-date y m d date =
    record {
      first_month = date.first_month;
      last_month = date.last_month;
      first_day = date.first_day;
      last_day = omega (arith, common-month y m, date.last_day);
    }

pub days_into_year-is : (y : ℤ) (m d : ℕ) → days_into_year y m d ≡ days_through y (m - 1) + (d - 1)
unfolding days_into_year
days_into_year-is y m d = refl

early : (y : ℤ) (k m d : ℕ) → IsInCommon k m d → m < 3 → (days_into_year y m d ≡ k) × (k < 59)
early y k m d is few =
    let here = days_into_year-is y m d in
    let there = days_into_year-is (pos 1970) m d in
    let starts = days_through-two y in
    let common_starts = days_through-two (pos 1970) in
    let february = days_in_month-february (pos 1970) in
    let january = days_in_month-january (pos 1970) in
    elim (cases_lt m 2) [
      | inl one ↦ let e : m ≡ 1 = omega (arith, is.date.first_month) in
          let first = ap (λ i. days_through y (i - 1)) e in
          let same = ap (λ i. days_through (pos 1970) (i - 1)) e in
          let length = ap (days_in_month (pos 1970)) e in
          (omega (arith, is.place), omega (arith, is.place, is.date.last_day))
      | inr two ↦ let e : m ≡ 2 = omega arith in
          let first = ap (λ i. days_through y (i - 1)) e in
          let same = ap (λ i. days_through (pos 1970) (i - 1)) e in
          let length = ap (days_in_month (pos 1970)) e in
          (omega (arith, is.place), omega (arith, is.place, is.date.last_day, common-length))
    ]

late : (y : ℤ) (k m d : ℕ) → IsInCommon k m d → 3 ≤ m → (days_into_year y m d + 365 ≡ k + days_in_year y) × (59 ≤ k)
late y k m d is many =
    let here = days_into_year-is y m d in
    let there = days_into_year-is (pos 1970) m d in
    let last : m ≤ 13 = omega (arith, is.date.last_month) in
    let before = days_through-late y m many last in
    let common_before = days_through-late (pos 1970) m many last in
    (omega (arith, is.place, common-length), omega (arith, is.place, common-length))

-- from March on a leap year has a day more before the nth
days_into_year-julian : (y : ℤ) (n m d : ℕ) → 1 ≤ n → IsInCommon (n - 1) m d
    → days_into_year y m d ≡ cond (nat_le 60 n && is_leap y) n (n - 1)
days_into_year-julian y n m d some is =
    elim (cases_lt m 3) [
      | inl few ↦ let both = early y (n - 1) m d is few in
          let not_yet : nat_le 60 n ≡ false = grind (arith, nat_tests, both.1) in
          rw not_yet both.0
      | inr many ↦ let both = late y (n - 1) m d is many in
          let past : nat_le 60 n ≡ true = grind (arith, nat_tests, both.1) in
          let length = days_in_year-cases y in
          elim (cases_Bool (is_leap y)) [
            | inl leap ↦ rw (past, leap) (omega (arith, both.0, rw leap at length))
            | inr plain ↦ rw (past, plain) (omega (arith, both.0, rw plain at length))
          ]
    ]

pub julian_day-is : (y : ℤ) (n : ℕ) → IsCountedYear y → 1 ≤ n → n ≤ 365
    → julian_day y n ≡ day y 1 1 +ℤ pos (cond (nat_le 60 n && is_leap y) n (n - 1))
unfolding julian_day
julian_day-is y n year some few =
    let is = in_common (n - 1) (omega arith) in
    rw (day-into_year y _ _ year, days_into_year-julian y n _ _ some is) refl

pub julian_day-inside : (y : ℤ) (n : ℕ) → IsYear y → 1 ≤ n → n ≤ 365 → IsDay (julian_day y n)
unfolding julian_day
julian_day-inside y n year some few =
    date-inside y _ _ year (common-date y _ _ (in_common (n - 1) (omega arith)).date)
