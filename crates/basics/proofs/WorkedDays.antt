-- The definitions evaluated on days that are known from outside.
use Rattle.std.proofs.Common.{◌≡◌, refl, List, [], ◌∷◌, map, ℤ, pos, neg_ℤ}
use Rattle.basics.specs.{Days.{is_leap, days_in_year, days_in_month, days_after_zero, days_before_zero, year_start, days_through, days_into_year, day}, Weekdays.{weekday_of}}

abbrev day_numbers : List ℤ
day_numbers =
    neg_ℤ (pos 4371587) ∷ neg_ℤ (pos 719529) ∷ neg_ℤ (pos 719469) ∷ neg_ℤ (pos 719162) ∷ neg_ℤ (pos 135081) ∷ neg_ℤ (pos 40587) ∷
    neg_ℤ (pos 25508) ∷ neg_ℤ (pos 1) ∷ pos 11016 ∷ pos 47541 ∷ pos 2932896 ∷ []

-- -9999-01-01, -0001-12-31, 0000-02-29, 0001-01-01, 1600-02-29, 1858-11-17, 1900-03-01, 1969-12-31, 2000-02-29, 2100-03-01, 9999-12-31
worked_days : day (neg_ℤ (pos 9999)) 1 1 ∷ day (neg_ℤ (pos 1)) 12 31 ∷ day (pos 0) 2 29 ∷ day (pos 1) 1 1 ∷ day (pos 1600) 2 29 ∷
    day (pos 1858) 11 17 ∷ day (pos 1900) 3 1 ∷ day (pos 1969) 12 31 ∷ day (pos 2000) 2 29 ∷ day (pos 2100) 3 1 ∷ day (pos 9999) 12 31 ∷
    [] ≡ day_numbers
unfolding is_leap days_in_year days_in_month days_after_zero days_before_zero year_start days_through days_into_year day
worked_days = refl

-- Monday is 1, and Sunday would be 0
worked_weekdays : map weekday_of day_numbers ≡ 1 ∷ 5 ∷ 2 ∷ 1 ∷ 2 ∷ 3 ∷ 4 ∷ 3 ∷ 2 ∷ 1 ∷ 5 ∷ []
unfolding weekday_of
worked_weekdays = refl

-- by their names: 31 days but for February, April, June, September and November
worked_months : map (days_in_month (pos 2023)) (1 ∷ 2 ∷ 3 ∷ 4 ∷ 5 ∷ 6 ∷ 7 ∷ 8 ∷ 9 ∷ 10 ∷ 11 ∷ 12 ∷ [])
    ≡ 31 ∷ 28 ∷ 31 ∷ 30 ∷ 31 ∷ 30 ∷ 31 ∷ 31 ∷ 30 ∷ 31 ∷ 30 ∷ 31 ∷ []
unfolding is_leap days_in_month
worked_months = refl

-- February in 2024, 1900, 2000, 2100, 0, -1, -4, -100 and -400
worked_februaries : map (λ y. days_in_month y 2)
    (pos 2024 ∷ pos 1900 ∷ pos 2000 ∷ pos 2100 ∷ pos 0 ∷ neg_ℤ (pos 1) ∷ neg_ℤ (pos 4) ∷ neg_ℤ (pos 100) ∷ neg_ℤ (pos 400) ∷ [])
    ≡ 29 ∷ 28 ∷ 29 ∷ 28 ∷ 29 ∷ 28 ∷ 29 ∷ 28 ∷ 29 ∷ []
unfolding is_leap days_in_month
worked_februaries = refl
