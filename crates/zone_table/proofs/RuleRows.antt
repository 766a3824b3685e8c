-- The definitions of rules on worked rows. Times are those of `date -u -d`.
use Rattle.std.specs.Prelude.{◌≡◌, pos, negsuc, Option, Some, None, true, false, refl}
use Rattle.basics.specs.{Days.{days_after_zero, year_start, days_through, days_into_year, day, is_leap, days_in_year, days_in_month}, Dates.{last_with}, Weekdays.{weekday_of}}
use Rattle.zone_table.specs.{Days.{named_day, first_from}, declared.day.DaySpec.{DaySpec}, declared.day.DaySpec.TheVariants.{Ordinal, Last, FirstOnOrAfter}, declared.month.Month.{Month}, declared.month.Month.TheVariants.{January, March, April, November}, declared.{time.TimeType.{TimeType}, time.TimeType.TheVariants.{Wall, Standard, UTC}, weekday.Weekday.TheVariants.{Sunday}, year.Year.{Year}, year.Year.TheVariants.{Minimum, Maximum, Number}}, Moments.{has_years, last_year, applies_to_year, instant_of, moment}, declared.rule.RuleInfo.{RuleInfo}}

-- ---- years

-- a rule of these years
abbrev of_years : Year → Option Year → RuleInfo
of_years from to = record {
  from_year = from;
  to_year = to;
  month = January;
  day = Ordinal (pos 1);
  time = pos 0;
  time_type = Wall;
  time_to_add = pos 0;
  letters = None;
}

-- `2007 2010`
abbrev four_years : RuleInfo
four_years = of_years (Number (pos 2007)) (Some (Number (pos 2010)))

from_the_first : (applies_to_year four_years (pos 2006) ≡ false) × (applies_to_year four_years (pos 2007) ≡ true)
unfolding applies_to_year last_year
from_the_first = (refl, refl)

to_the_last : (applies_to_year four_years (pos 2010) ≡ true) × (applies_to_year four_years (pos 2011) ≡ false)
unfolding applies_to_year last_year
to_the_last = (refl, refl)

-- `2007 only`
abbrev one_year : RuleInfo
one_year = of_years (Number (pos 2007)) None

only_its_year : (applies_to_year one_year (pos 2006) ≡ false) × (applies_to_year one_year (pos 2007) ≡ true)
    × (applies_to_year one_year (pos 2008) ≡ false)
unfolding applies_to_year last_year
only_its_year = (refl, refl, refl)

-- `2007 max`
for_good : applies_to_year (of_years (Number (pos 2007)) (Some Maximum)) (pos 9999) ≡ true
unfolding applies_to_year last_year
for_good = refl

comparable : (has_years four_years ≡ true) × (has_years one_year ≡ true)
    × (has_years (of_years (Number (pos 2007)) (Some Maximum)) ≡ true)
comparable = (refl, refl, refl)

-- a first year that is no number, and `minimum` as the last
incomparable : (has_years (of_years Minimum (Some Maximum)) ≡ false) × (has_years (of_years Maximum None) ≡ false)
    × (has_years (of_years (Number (pos 2007)) (Some Minimum)) ≡ false)
incomparable = (refl, refl, refl)

-- ---- moments

-- a rule for good on that day at 2:00 of that clock
abbrev at_two : Month → DaySpec → TimeType → RuleInfo
at_two month day clock =
    record (of_years (Number (pos 2007)) (Some Maximum)) { month = month; day = day; time = pos 7200; time_type = clock }

-- New York, 2024-03-10 07:00 UTC, and in summer time 2024-11-03 06:00; Sydney in summer time by standard time, 2024-04-06
-- 16:00; Paris at 1:00 UTC, 2024-03-31
known_moments : (moment (at_two March (FirstOnOrAfter Sunday (pos 8)) Wall) (pos 2024) (negsuc 17999) (pos 0) ≡ pos 1710054000)
    × (moment (at_two November (FirstOnOrAfter Sunday (pos 1)) Wall) (pos 2024) (negsuc 17999) (pos 3600) ≡ pos 1730613600)
    × (moment (at_two April (FirstOnOrAfter Sunday (pos 1)) Standard) (pos 2024) (pos 36000) (pos 3600) ≡ pos 1712419200)
    × (moment (record (at_two March (Last Sunday) UTC) { time = pos 3600 }) (pos 2024) (pos 3600) (pos 0) ≡ pos 1711846800)
unfolding moment instant_of named_day first_from last_with weekday_of day year_start days_after_zero days_through days_into_year
    days_in_year days_in_month is_leap
known_moments = (refl, refl, refl, refl)

-- 1:00 by each clock, at an offset of an hour and a saving of half an hour
by_each_clock : (instant_of Wall (pos 3600) (pos 3600) (pos 1800) ≡ negsuc 1799)
    × (instant_of Standard (pos 3600) (pos 3600) (pos 1800) ≡ pos 0)
    × (instant_of UTC (pos 3600) (pos 3600) (pos 1800) ≡ pos 3600)
unfolding instant_of
by_each_clock = (refl, refl, refl)
