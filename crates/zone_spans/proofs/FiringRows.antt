-- The firings of lines and what they list, at worked rows. Times are those of `date -u -d`.
use Rattle.std.specs.Prelude.{◌≡◌, ℕ, List, [], ◌∷◌, map, Some, None, ℤ, pos, negsuc, codes, refl}
use Rattle.basics.specs.{Days.{days_after_zero, year_start, days_through, days_into_year, day, is_leap, days_in_year, days_in_month}, Dates.{last_with}, Weekdays.{weekday_of}}
use Rattle.zone_table.specs.{Days.{named_day, first_from}, declared.change.ChangeTime.TheVariants.{UntilYear, UntilDay, UntilTime}, declared.day.DaySpec.{DaySpec}, declared.day.DaySpec.TheVariants.{Ordinal, FirstOnOrAfter}, declared.month.Month.{Month}, declared.{month.Month.TheVariants.{January, March, July, November, December}, time.TimeSpec.TheVariants.{Zero}, time.TimeType.TheVariants.{Wall, Standard, UTC}, weekday.Weekday.TheVariants.{Sunday}}, declared.year.Year.TheVariants.{Maximum, Number}, Moments.{applies_to_year, instant_of, last_year, moment}, declared.rule.RuleInfo.{RuleInfo}}
use Rattle.zone_spans.specs.{Firings.{Firing, earliest, fired, firings_of_years, year_firings, years_expanded, years_over}, Listing.{listed_from, start_firing}, Windows.{line_end}, Years.{latest_year}}

-- a rule for good from 2007 on
abbrev pub yearly : Month → DaySpec → ℤ → ℤ → List ℕ → RuleInfo
yearly month day time saving letters = record {
  from_year = Number (pos 2007);
  to_year = Some Maximum;
  month = month;
  day = day;
  time = time;
  time_type = Wall;
  time_to_add = saving;
  letters = Some letters;
}

-- `Rule US 2007 max - Mar Sun>=8 2:00 1:00 D`, and `Rule US 2007 max - Nov Sun>=1 2:00 0 S`
abbrev pub forward : RuleInfo
forward = yearly March (FirstOnOrAfter Sunday (pos 8)) (pos 7200) (pos 3600) (codes "D")

abbrev pub back : RuleInfo
back = yearly November (FirstOnOrAfter Sunday (pos 1)) (pos 7200) (pos 0) (codes "S")

-- New York's year: the second rule fires under the saving of the first, however they are listed
new_york_year : year_firings (pos 2024) (negsuc 17999) None (pos 0) (forward ∷ back ∷ [])
    ≡ (record { time = pos 1710054000; rule = forward } ∷ record { time = pos 1730613600; rule = back } ∷ [], pos 0)
unfolding year_firings fired earliest applies_to_year last_year moment instant_of named_day first_from last_with weekday_of is_leap days_in_year days_in_month days_after_zero year_start days_through days_into_year day
new_york_year = refl

listed_backwards : year_firings (pos 2024) (negsuc 17999) None (pos 0) (back ∷ forward ∷ [])
    ≡ year_firings (pos 2024) (negsuc 17999) None (pos 0) (forward ∷ back ∷ [])
unfolding year_firings fired earliest applies_to_year last_year moment instant_of named_day first_from last_with weekday_of is_leap days_in_year days_in_month days_after_zero year_start days_through days_into_year day
listed_backwards = refl

-- the year is over at the end of July, under the saving in force, and its saving stays
over_in_july : year_firings (pos 2024) (negsuc 17999) (Some (UntilDay (Number (pos 2024)) July (Ordinal (pos 31)))) (pos 0)
    (forward ∷ back ∷ [])
    ≡ (record { time = pos 1710054000; rule = forward } ∷ [], pos 3600)
unfolding year_firings fired earliest line_end applies_to_year last_year moment instant_of named_day first_from last_with weekday_of is_leap days_in_year days_in_month days_after_zero year_start days_through days_into_year day
over_in_july = refl

-- 2006 is before the rules
none_in_2006 : year_firings (pos 2006) (negsuc 17999) None (pos 0) (forward ∷ back ∷ []) ≡ ([], pos 0)
unfolding year_firings fired earliest applies_to_year last_year moment instant_of named_day first_from last_with weekday_of is_leap days_in_year days_in_month days_after_zero year_start days_through days_into_year day
none_in_2006 = refl

-- a rule of January 1st 1800 at that second, of 1800 alone
abbrev at_second : ℤ → ℤ → List ℕ → RuleInfo
at_second time saving letters =
    record (yearly January (Ordinal (pos 1)) time saving letters) { from_year = Number (pos 1800); to_year = None }

-- the end of the year, 1800-01-01 00:00, is -5364662400: a rule at the end does not fire, and one a second before it does
at_the_end : fired 1 (pos 1800) (pos 0) (Some (UntilYear (Number (pos 1800)))) (pos 0) (at_second (pos 0) (pos 3600) [] ∷ []) ≡ ([], pos 0)
unfolding fired earliest line_end moment instant_of named_day is_leap days_in_year days_in_month days_after_zero year_start days_through days_into_year day
at_the_end = refl

before_the_end : fired 1 (pos 1800) (pos 0) (Some (UntilYear (Number (pos 1800)))) (pos 0) (at_second (negsuc 0) (pos 3600) [] ∷ [])
    ≡ (record { time = negsuc 5364662400; rule = at_second (negsuc 0) (pos 3600) [] } ∷ [], pos 3600)
unfolding fired earliest line_end moment instant_of named_day is_leap days_in_year days_in_month days_after_zero year_start days_through days_into_year day
before_the_end = refl

-- under a saving the wall's clock shows the end an hour earlier, and the rule's time too: at the end the rule doesn't fire, a second before it does
at_the_end_under_a_saving : map (λ second. fired 1 (pos 1800) (pos 0) (Some (UntilYear (Number (pos 1800)))) (pos 3600)
    (at_second second (pos 0) [] ∷ [])) (pos 0 ∷ negsuc 0 ∷ [])
    ≡ ([], pos 3600) ∷ (record { time = negsuc 5364666000; rule = at_second (negsuc 0) (pos 0) [] } ∷ [], pos 0) ∷ []
unfolding fired earliest line_end moment instant_of named_day is_leap days_in_year days_in_month days_after_zero year_start days_through days_into_year day
at_the_end_under_a_saving = refl

-- of two at one moment the first listed fires first, and then the other an hour earlier: times of a year can fall
ties : fired 2 (pos 1800) (pos 0) None (pos 0) (at_second (pos 0) (pos 3600) (codes "A") ∷ at_second (pos 0) (pos 0) (codes "B") ∷ [])
    ≡ (
      record { time = negsuc 5364662399; rule = at_second (pos 0) (pos 3600) (codes "A") }
          ∷ record { time = negsuc 5364665999; rule = at_second (pos 0) (pos 0) (codes "B") } ∷ [],
      pos 0,
    )
unfolding fired earliest moment instant_of named_day is_leap days_in_year days_in_month days_after_zero year_start days_through days_into_year day
ties = refl

-- of three the last listed is the earliest, and the others keep their order
others_in_order : earliest (pos 1800) (pos 0) (pos 0) (at_second (pos 0) (pos 0) (codes "A"))
    (at_second (pos 0) (pos 0) (codes "B") ∷ at_second (negsuc 0) (pos 0) (codes "C") ∷ [])
    ≡ (
      at_second (negsuc 0) (pos 0) (codes "C"),
      at_second (pos 0) (pos 0) (codes "A") ∷ at_second (pos 0) (pos 0) (codes "B") ∷ [],
    )
unfolding earliest moment instant_of named_day is_leap days_in_year days_in_month days_after_zero year_start days_through days_into_year day
others_in_order = refl

-- the saving goes from one year to the next, and begins with none
first_years : firings_of_years (pos 0) None (at_second (pos 0) (pos 3600) [] ∷ []) 2
    ≡ (record { time = negsuc 5364662399; rule = at_second (pos 0) (pos 3600) [] } ∷ [], pos 3600)
unfolding firings_of_years year_firings fired earliest applies_to_year last_year moment instant_of named_day is_leap days_in_year days_in_month days_after_zero year_start days_through days_into_year day
first_years = refl

-- a rule of December 31st 1800 at 99:00, which is past the line's end on January 3rd, keeps no rule of the next year from firing before it
abbrev late : RuleInfo
late = record (at_second (pos 356400) (pos 7200) (codes "S")) { month = December; day = Ordinal (pos 31) }

abbrev next_year : RuleInfo
next_year = record (at_second (pos 0) (pos 3600) (codes "D")) { from_year = Number (pos 1801) }

over_for_a_year : firings_of_years (pos 0) (Some (UntilDay (Number (pos 1801)) January (Ordinal (pos 3)))) (late ∷ next_year ∷ []) 2
    ≡ (record { time = negsuc 5333126399; rule = next_year } ∷ [], pos 3600)
unfolding firings_of_years year_firings fired earliest line_end applies_to_year last_year moment instant_of named_day is_leap days_in_year days_in_month days_after_zero year_start days_through days_into_year day
over_for_a_year = refl

-- to 2099, or to the year of the end
years : map years_expanded (None ∷ Some (UntilYear (Number (pos 1799))) ∷ Some (UntilYear (Number (pos 1800)))
    ∷ Some (UntilYear (Number (pos 1946))) ∷ Some (UntilYear (Number (pos 2099))) ∷ Some (UntilYear (Number (pos 2150))) ∷ [])
    ≡ 300 ∷ 0 ∷ 1 ∷ 147 ∷ 300 ∷ 300 ∷ []
unfolding years_over
years = refl

-- over 402 years, to 2201
more_years : map (years_over 402) (None ∷ Some (UntilYear (Number (pos 2150))) ∷ Some (UntilYear (Number (pos 2300))) ∷ []) ≡ 402 ∷ 351 ∷ 402 ∷ []
unfolding years_over
more_years = refl

last_of_them : latest_year ≡ 2099
last_of_them = refl

-- 2000-01-01 00:00 by each clock, an hour ahead and a saving of an hour; a day alone is the wall's
ends : map (λ end. line_end end (pos 3600) (pos 3600))
    (UntilTime (Number (pos 2000)) January (Ordinal (pos 1)) (record { 0 = Zero; 1 = Wall })
    ∷ UntilTime (Number (pos 2000)) January (Ordinal (pos 1)) (record { 0 = Zero; 1 = Standard })
    ∷ UntilTime (Number (pos 2000)) January (Ordinal (pos 1)) (record { 0 = Zero; 1 = UTC })
    ∷ UntilYear (Number (pos 2000)) ∷ [])
    ≡ pos 946677600 ∷ pos 946681200 ∷ pos 946684800 ∷ pos 946677600 ∷ []
unfolding line_end instant_of named_day is_leap days_in_year days_in_month days_after_zero year_start days_through days_into_year day
ends = refl

-- ---- what a line lists

-- a firing at that second
abbrev at : ℤ → ℤ → Firing
at time saving = record { time = time; rule = at_second (pos 0) saving [] }

-- from the first at the start on all, and before it those above the start
at_the_start : listed_from (pos 100) (at (pos 50) (pos 0) ∷ at (pos 150) (pos 0) ∷ at (pos 100) (pos 1) ∷ at (pos 90) (pos 0)
    ∷ at (pos 100) (pos 2) ∷ [])
    ≡ at (pos 150) (pos 0) ∷ at (pos 100) (pos 1) ∷ at (pos 90) (pos 0) ∷ at (pos 100) (pos 2) ∷ []
unfolding listed_from
at_the_start = refl

above_the_start : listed_from (pos 100) (at (pos 50) (pos 0) ∷ at (pos 150) (pos 0) ∷ at (pos 90) (pos 0) ∷ at (pos 101) (pos 2) ∷ [])
    ≡ at (pos 150) (pos 0) ∷ at (pos 101) (pos 2) ∷ []
unfolding listed_from
above_the_start = refl

-- no entry at the start where a firing is there; else the last before it, in firing order; else the first with no saving, which one below 0 is
-- not; else none
starts : map (start_firing (pos 100)) (
    (at (pos 50) (pos 0) ∷ at (pos 100) (pos 1) ∷ [])
    ∷ (at (pos 90) (pos 0) ∷ at (pos 50) (pos 7) ∷ at (pos 150) (pos 0) ∷ [])
    ∷ (at (pos 150) (pos 7) ∷ at (pos 160) (pos 0) ∷ at (pos 170) (pos 0) ∷ [])
    ∷ (at (pos 150) (negsuc 3599) ∷ at (pos 160) (pos 0) ∷ [])
    ∷ (at (pos 150) (pos 7) ∷ [])
    ∷ [] ∷ []
    )
    ≡ None ∷ Some (at (pos 50) (pos 7)) ∷ Some (at (pos 160) (pos 0)) ∷ Some (at (pos 160) (pos 0)) ∷ None ∷ None ∷ []
unfolding start_firing
starts = refl
