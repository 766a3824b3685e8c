-- Worked rows: the forms of last years, and the first cause.
use Rattle.std.{proofs.Common.{◌≡◌, ℕ, List, [], ◌∷◌, ◌++◌, map, true, false, Some, None, refl, ℤ, pos, neg_ℤ, ◌*ℤ◌}, specs.Prelude.{codes}}
use Rattle.basics.specs.{Dates.{last_with}, Days.{day, days_after_zero, days_before_zero, days_in_month, days_in_year, days_into_year, days_through, is_leap, year_start}, Weekdays.{weekday_of}}
use Rattle.tz_posix.specs.{Days.{nth_weekday, rule_day}, InForce.{instant_in}, declared.date.Date.TheVariants.{M}}
use Rattle.zone_spans.specs.{Entries.{Entry}, declared.span.FixedTimespan.{FixedTimespan}}
use Rattle.tz_lookup.specs.declared.set.FixedTimespanSet.{FixedTimespanSet}
use Rattle.zone_tail.specs.{Candidates.{year_1800}, Found.{reaches}, LastYear.{steady, yearly, other, form, standard_of, year_begin, year_end}, Settled.{has_begun_in}, Tails.{end_of_last_year, is_ending_early, is_outlasting, tail_fault}}
use Rattle.zone_tail.specs.declared.{candidate.Candidate.TheVariants.{Fixed, Ruled}, outcome.TailFault.TheVariants.{Shape, OffsetRange, Name}, rule.YearlyRule.{YearlyRule}}

abbrev span : ℤ → ℤ → List ℕ → FixedTimespan
span offset saving name = record { utc_offset = offset; dst_offset = saving; name = name }

abbrev with : FixedTimespan → List Entry → FixedTimespanSet
with first others = record { name = []; first = first; others = others }

abbrev spring : ℤ
spring = pos 4077000000

abbrev autumn : ℤ
autumn = pos 4095000000

abbrev standard : ℤ → Entry
standard time = (time, span (pos 3600) (pos 0) (codes "CET"))

abbrev saving : ℤ → Entry
saving time = (time, span (pos 3600) (pos 3600) (codes "CEST"))

abbrev year : List Entry → FixedTimespanSet
year others = with (span (pos 0) (pos 0) (codes "UTC")) others

-- no entry of 2099 by standard time; the last second before it, and the first of it
steady_years : map form (year [] ∷ year (standard (pos 4070905199) ∷ []) ∷ year (standard (pos 4070905200) ∷ []) ∷ [])
    ≡ steady (span (pos 0) (pos 0) (codes "UTC")) ∷ steady (span (pos 3600) (pos 0) (codes "CET")) ∷ other ∷ []
unfolding form standard_of
steady_years = refl

-- a start and an end, in either order, and no third entry
yearly_years : map form (year (saving spring ∷ standard autumn ∷ []) ∷ year (standard spring ∷ saving autumn ∷ []) ∷ year (saving spring ∷ saving autumn ∷ [])
    ∷ year (standard spring ∷ standard autumn ∷ []) ∷ year (saving spring ∷ standard spring ∷ []) ∷ year (saving spring ∷ standard autumn ∷ saving autumn ∷ []) ∷ [])
    ≡ yearly (saving spring) (standard autumn) ∷ yearly (saving autumn) (standard spring) ∷ other ∷ other ∷ other ∷ other ∷ []
unfolding form standard_of
yearly_years = refl

-- the end lies in the year by clocks of daylight saving time: it may come at 22:59:59 on 31 December, and not a second later
last_end : map form (year (saving spring ∷ standard (pos 4102437599) ∷ []) ∷ year (saving spring ∷ standard (pos 4102437600) ∷ []) ∷ [])
    ≡ yearly (saving spring) (standard (pos 4102437599)) ∷ other ∷ []
unfolding form standard_of
last_end = refl

-- a saving below 0, and an entry with another standard offset
other_kinds : map form (year ((spring, span (pos 3600) (neg_ℤ (pos 3600)) (codes "GMT")) ∷ standard autumn ∷ [])
    ∷ year ((spring, span (pos 0) (pos 7200) (codes "CEST")) ∷ standard autumn ∷ []) ∷ [])
    ≡ other ∷ other ∷ []
unfolding form standard_of
other_kinds = refl

-- the causes, in their order
causes : map tail_fault (year [] ∷ year (standard (pos 4070905200) ∷ []) ∷ with (span (pos 90000) (pos 0) []) [] ∷ with (span (pos 89999) (pos 0) []) []
    ∷ year ((spring, span (pos 86399) (pos 3601) (codes "D")) ∷ (autumn, span (pos 86399) (pos 0) []) ∷ [])
    ∷ year ((spring, span (pos 3600) (pos 3600) (codes "<D>")) ∷ standard autumn ∷ []) ∷ [])
    ≡ None ∷ Some Shape ∷ Some OffsetRange ∷ Some Name ∷ Some OffsetRange ∷ Some Name ∷ []
unfolding form standard_of
causes = refl

-- the seconds of the years are those of the calendar
year_seconds : map (λ y. pos 86400 *ℤ day y 1 1) (pos 1800 ∷ pos 2099 ∷ pos 2100 ∷ [])
    ≡ year_1800 ∷ year_begin ∷ year_end ∷ []
unfolding is_leap days_in_year days_in_month days_after_zero days_before_zero year_start days_through days_into_year day
year_seconds = refl

-- a rule reaches back to an entry at the beginning of 1800, and to none a second before it; one total reaches back to any
reaching : (rule : YearlyRule) → map (reaches (Ruled rule)) (neg_ℤ (pos 5364662401) ∷ neg_ℤ (pos 5364662400) ∷ pos 0 ∷ [])
    ∷ map (reaches (Fixed (pos 0))) (neg_ℤ (pos 5364662401) ∷ neg_ℤ (pos 1099511627776) ∷ pos 0 ∷ []) ∷ []
    ≡ (false ∷ true ∷ true ∷ []) ∷ (true ∷ true ∷ true ∷ []) ∷ []
reaching rule = refl

-- the last year ends by the set's standard offset
year_ends : map end_of_last_year (year [] ∷ year (saving spring ∷ standard autumn ∷ []) ∷ year (saving spring ∷ []) ∷ [])
    ≡ pos 4102444800 ∷ pos 4102441200 ∷ pos 4102441200 ∷ []
unfolding standard_of
year_ends = refl

-- an entry in the last second of the last year, at its end, and long past it, beside earlier ones; by clocks an hour ahead
outlasting : map is_outlasting (year [] ∷ year ((pos 4102444799, span (pos 0) (pos 0) (codes "A")) ∷ [])
    ∷ year ((pos 4102444800, span (pos 0) (pos 0) (codes "A")) ∷ []) ∷ year (saving spring ∷ standard autumn ∷ standard (pos 5680281600) ∷ [])
    ∷ year (standard spring ∷ standard (pos 4102441199) ∷ []) ∷ year (standard spring ∷ standard (pos 4102441200) ∷ []) ∷ [])
    ≡ false ∷ false ∷ true ∷ true ∷ false ∷ true ∷ []
unfolding is_outlasting standard_of
outlasting = refl

-- daylight saving time that ends on January 7 at 23:59:59 by its own clocks, and a second later; and none that ends
ending_early : map is_ending_early (year (standard (pos 4071506399) ∷ saving spring ∷ []) ∷ year (standard (pos 4071506400) ∷ saving spring ∷ [])
    ∷ year (saving spring ∷ standard autumn ∷ []) ∷ year [] ∷ year (standard (pos 4071506399) ∷ []) ∷ [])
    ≡ true ∷ false ∷ false ∷ false ∷ false ∷ []
unfolding is_ending_early form standard_of
ending_early = refl

-- the standard offset is that in force as 2100 begins in UTC: an entry at that second counts, one a second later doesn't
standards : map standard_of (year ((pos 4102444800, span (pos 7200) (pos 0) []) ∷ []) ∷ year ((pos 4102444801, span (pos 7200) (pos 0) []) ∷ [])
    ∷ year (standard spring ∷ saving autumn ∷ []) ∷ [])
    ≡ pos 7200 ∷ pos 0 ∷ pos 3600 ∷ []
unfolding standard_of
standards = refl

-- an entry at the second at which the last year ends is none of it, and one a second earlier is
at_the_end : map form (year (saving spring ∷ standard autumn ∷ standard (pos 4102441200) ∷ [])
    ∷ year (saving spring ∷ standard autumn ∷ standard (pos 4102441199) ∷ []) ∷ [])
    ≡ yearly (saving spring) (standard autumn) ∷ other ∷ []
unfolding form standard_of
at_the_end = refl

-- a year's rule has begun with the earlier of its start and its end: in Madrid on 2099-03-29 at 01:00 UTC, in Sydney on 2099-04-04 at 16:00 UTC
begun_in_2099 : map (has_begun_in (pos 2099) (pos 3600) (pos 7200) (M 3 5 0, pos 7200) (M 10 5 0, pos 10800)) (pos 4078429199 ∷ pos 4078429200 ∷ [])
    ++ map (has_begun_in (pos 2099) (pos 36000) (pos 39600) (M 10 1 0, pos 7200) (M 4 1 0, pos 10800)) (pos 4079001599 ∷ pos 4079001600 ∷ [])
    ≡ false ∷ true ∷ false ∷ true ∷ []
unfolding instant_in rule_day nth_weekday last_with weekday_of is_leap days_in_year days_in_month days_after_zero year_start days_through days_into_year day
begun_in_2099 = refl
