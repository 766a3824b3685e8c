-- The days that dates name, on days that are known from outside.
use Rattle.std.proofs.Common.{◌≡◌, refl, arith, ℕ, ◌-◌, [], ◌∷◌, map, Some, None, ℤ, pos}
use Rattle.basics.specs.{Days.{is_leap, days_in_year, days_in_month, days_after_zero, year_start, days_through, days_into_year, day, IsDate, IsCountedYear}, Dates.{last_with}, DateLaws.{month_of-day, day_of-day}, SignedLaws.{signed}, Weekdays.{weekday_of}}
use Rattle.tz_posix.specs.{Days.{julian_day, nth_weekday, rule_day, day_refusal}, declared.date.Date.TheVariants.{N, M}, declared.error.Error.TheVariants.{ComponentRange, DateTooLarge}}

-- in 2024: the second Sunday of March, the first of November, the last Thursday of February, the fifth and the fourth of May
worked_weekdays : nth_weekday (pos 2024) 3 2 0 ∷ nth_weekday (pos 2024) 11 1 0 ∷ nth_weekday (pos 2024) 2 5 4 ∷
    nth_weekday (pos 2024) 5 5 5 ∷ nth_weekday (pos 2024) 5 5 6 ∷ nth_weekday (pos 2024) 5 4 6 ∷ []
    ≡ 10 ∷ 3 ∷ 29 ∷ 31 ∷ 25 ∷ 25 ∷ []
unfolding
    nth_weekday last_with weekday_of
    is_leap days_in_year days_in_month days_after_zero year_start days_through days_into_year day
worked_weekdays = refl

-- the last Sunday of March 2026 is the fifth, and that of October 2026 the fourth
worked_days : rule_day (M 3 5 0) (pos 2026) ∷ rule_day (M 10 5 0) (pos 2026) ∷ rule_day (N 59) (pos 2024) ∷ rule_day (N 59) (pos 2023) ∷
    rule_day (N 0) (pos 2024) ∷ []
    ≡ day (pos 2026) 3 29 ∷ day (pos 2026) 10 25 ∷ day (pos 2024) 2 29 ∷ day (pos 2023) 3 1 ∷ day (pos 2024) 1 1 ∷ []
unfolding
    rule_day nth_weekday last_with weekday_of
    is_leap days_in_year days_in_month days_after_zero year_start days_through days_into_year day
worked_days = refl

-- 366 days in 2024, 365 in 2023; in December 9999 the Wednesdays begin on the 1st, the Fridays on the 3rd and the Saturdays on the 4th
worked_refusals : map (λ y. day_refusal (N 365) y) (pos 2024 ∷ pos 2023 ∷ []) ≡ None ∷ Some ComponentRange ∷ []
unfolding
    day_refusal is_leap days_in_year
worked_refusals = refl

worked_last : map (λ d. day_refusal (M 12 5 d) (pos 9999)) (0 ∷ 1 ∷ 2 ∷ 3 ∷ 4 ∷ 5 ∷ 6 ∷ [])
    ≡ Some DateTooLarge ∷ Some DateTooLarge ∷ Some DateTooLarge ∷ None ∷ None ∷ None ∷ Some DateTooLarge ∷ []
unfolding
    day_refusal nth_weekday last_with weekday_of
    is_leap days_in_year days_in_month days_after_zero year_start days_through days_into_year day
worked_last = refl

worked_not_last : day_refusal (M 12 4 0) (pos 9999) ∷ day_refusal (M 11 5 0) (pos 9999) ∷ day_refusal (M 12 5 0) (pos 9998) ∷ []
    ≡ None ∷ None ∷ None ∷ []
unfolding
    day_refusal nth_weekday last_with weekday_of
    is_leap days_in_year days_in_month days_after_zero year_start days_through days_into_year day
worked_not_last = refl

-- the 1st, 59th, 60th and 365th days without February 29, in every year
pub julian_is : (y : ℤ) (m d n : ℕ) → IsDate (pos 1970) m d → day (pos 1970) m d ≡ pos (n - 1) → julian_day y n ≡ day y m d
unfolding julian_day
julian_is y m d n date is =
    rw (← is, month_of-day (pos 1970) m d counted date, day_of-day (pos 1970) m d counted date) refl
  where
    counted : IsCountedYear (pos 1970)
    counted = record { first = omega (arith, signed); last = omega (arith, signed) }

worked_julian : (y : ℤ) → julian_day y 1 ∷ julian_day y 59 ∷ julian_day y 60 ∷ julian_day y 365 ∷ []
    ≡ day y 1 1 ∷ day y 2 28 ∷ day y 3 1 ∷ day y 12 31 ∷ []
unfolding is_leap days_in_year days_in_month days_after_zero year_start days_through days_into_year day
worked_julian y =
    let first : IsDate
    (pos 1970) 1 1 = record { first_month = omega arith; last_month = omega arith; first_day = omega arith; last_day = omega arith } in
    let february : IsDate
    (pos 1970) 2 28 = record { first_month = omega arith; last_month = omega arith; first_day = omega arith; last_day = omega arith } in
    let march : IsDate
    (pos 1970) 3 1 = record { first_month = omega arith; last_month = omega arith; first_day = omega arith; last_day = omega arith } in
    let last : IsDate
    (pos 1970) 12 31 = record { first_month = omega arith; last_month = omega arith; first_day = omega arith; last_day = omega arith } in
    rw (
      julian_is y 1 1 1 first refl,
      julian_is y 2 28 59 february refl,
      julian_is y 3 1 60 march refl,
      julian_is y 12 31 365 last refl,
    ) refl
