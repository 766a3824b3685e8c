-- The numbers of a cycle, and the years of an instant, by the calendar.
use Rattle.std.proofs.Common.{◌≡◌, refl, [], ◌∷◌, map, pos, neg_ℤ, List, ℤ, ◌*ℤ◌, ◌*◌, ◌-ℤ◌}
use Rattle.basics.specs.Days.{days_after_zero, year_start, days_through, days_into_year, day, is_leap, days_in_year, days_in_month}
use Rattle.zone_spans.specs.Cycle.{cycle_length, days_on, instant_on, seconds_on}
use Rattle.tz_ever.specs.AnyYear.{cycles_at, years_for}

-- 400 years are 146,097 days, which are 20,871 weeks and 12,622,780,800 seconds
days_of_cycle : day (pos 2400) 1 1 ≡ days_on (day (pos 2000) 1 1)
unfolding is_leap days_in_year days_in_month days_after_zero year_start days_through days_into_year day
days_of_cycle = refl

weeks : 20871 * 7 ≡ 146097
weeks = refl

seconds : 146097 * 86400 ≡ cycle_length
seconds = refl

nanoseconds : instant_on (pos 0) ≡ seconds_on (pos 0) *ℤ pos 1000000000
nanoseconds = refl

-- the first day of 1699, of 2101, and 3,000,000 seconds before 2100
begins_1699 : pos 86400 *ℤ day (pos 1699) 1 1 ≡ neg_ℤ (pos 8551872000)
unfolding is_leap days_in_year days_in_month days_after_zero year_start days_through days_into_year day
begins_1699 = refl

begins_2101 : pos 86400 *ℤ day (pos 2101) 1 1 ≡ pos 4133980800
unfolding is_leap days_in_year days_in_month days_after_zero year_start days_through days_into_year day
begins_2101 = refl

before_2100 : pos 86400 *ℤ day (pos 2100) 1 1 -ℤ pos 3000000 ≡ pos 4099444800
unfolding is_leap days_in_year days_in_month days_after_zero year_start days_through days_into_year day
before_2100 = refl

-- 300 years up to the end of 2098, 700 up to the end of 2498; and for the end of 9999
abbrev seven : List ℤ
seven = neg_ℤ (pos 14830974000000000000) ∷ pos 0 ∷ pos 4070908799999999999 ∷ pos 4070908800000000000 ∷ pos 16693689599999999999
    ∷ pos 16693689600000000000 ∷ pos 253402300799999999999 ∷ []

years_of_instants : map years_for seven ≡ (300 ∷ 300 ∷ 300 ∷ 700 ∷ 700 ∷ 1100 ∷ 8300 ∷ [])
unfolding years_for cycles_at
years_of_instants = refl
