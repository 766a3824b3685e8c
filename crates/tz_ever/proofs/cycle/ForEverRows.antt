-- A made zone of two rules in years far off, by what Python's zoneinfo says over zic's file of it.
use Rattle.std.{proofs.Common.{◌≡◌, refl, [], ◌∷◌, map, true, false, pos, List, codes, ℤ, ◌*ℤ◌, ◌∙◌, ℕ, Some, None, Option, Ok}, specs.Int.Signed.{le_z_yes}}
use Rattle.basics.specs.{Dates.{last_with}, Days.{days_after_zero, year_start, days_through, days_into_year, day, is_leap, days_in_year, days_in_month}, Weekdays.{weekday_of}}
use Rattle.zone_table.specs.{Days.{named_day, first_from, is_in_year}, declared.change.ChangeTime.TheVariants.{UntilYear}, declared.day.DaySpec.TheVariants.{Ordinal, Last}, declared.month.Month.{Month}, declared.{month.Month.TheVariants.{January, March, July, October}, time.TimeType.{TimeType}, time.TimeType.TheVariants.{Wall, UTC}, weekday.Weekday.TheVariants.{Sunday}, year.Year.TheVariants.{Maximum, Number}}, Formats.{abbreviation, filled}, Moments.{applies_to_year, instant_of, last_year, moment}, declared.zone.Format.TheVariants.{Constant, Placeholder}, declared.rule.RuleInfo.{RuleInfo}, declared.zone.{Saving.TheVariants.{NoSaving, Multiple}, ZoneInfo.{ZoneInfo}}}
use Rattle.zone_spans.specs.{Collapse.{kept_of, kept_with, collapsed, without_first}, Compiled.{compiled, compiled_over, set_of_lines_over}, Entries.{first_span, entries_from_over, entries_of_over, next_start_over, sorted_entries_over}}
use Rattle.zone_spans.specs.{Faults.{is_outside, some_year, leaves_year_over, schedule_fault_over}, Firings.{earliest, fired, year_firings, firings_of_years, line_firings_over, years_over}, Lines.{Rulesets, zone_lines}, Listing.{listed_from, start_firing}}
use Rattle.zone_spans.specs.{Schedules.{totals_of, total_at, schedule_over}, Windows.{line_end}, declared.span.FixedTimespan.{FixedTimespan}, declared.span.FixedTimespanSet.{FixedTimespanSet}, Cycle.{instant_on}}
use Rattle.zone_spans.specs.{GoesOn.{GoesOn, dont_fall, front_of, goes_on, is_in_order, last_goes_on, last_of, turns}, Later.{firings_from, start_after}, Settled.{is_lasting, is_settled}}
use Rattle.tz_ever.{specs.AnyYear.{IsFrom2101, cycles_at, is_before_cycle, total_for_ever, years_for}, proofs.cycle.ForEverLemmas.{repeats-at}}

-- `Rule Two 2098 max - Mar lastSun 1:00u 1:00 S` and `Rule Two 2098 max - Oct lastSun 1:00u 0 -`
abbrev pub last_sunday : Month → ℤ → Option (List ℕ) → RuleInfo
last_sunday month saving letters = record {
  from_year = Number (pos 2098);
  to_year = Some Maximum;
  month = month;
  day = Last Sunday;
  time = pos 3600;
  time_type = UTC;
  time_to_add = saving;
  letters = letters;
}

abbrev two : List RuleInfo
two = last_sunday March (pos 3600) (Some (codes "S")) ∷ last_sunday October (pos 0) None ∷ []

-- `Zone Made/Two 1:00 - CET 2098`, ` 1:00 Two CE%sT`
abbrev made : List ZoneInfo
made = record { offset = pos 3600; saving = NoSaving; format = Constant (codes "CET"); end_time = Some (UntilYear (Number (pos 2098))) }
    ∷ record { offset = pos 3600; saving = Multiple (codes "Two"); format = Placeholder (codes "CE%sT"); end_time = None } ∷ []

abbrev rulesets : Rulesets
rulesets name = Some two

-- an instant in nanoseconds, by its second
abbrev at : ℤ → ℤ
at second = second *ℤ pos 1000000000

abbrev cet : FixedTimespan
cet = record { utc_offset = pos 3600; dst_offset = pos 0; name = codes "CET" }

abbrev cest : FixedTimespan
cest = record { utc_offset = pos 3600; dst_offset = pos 3600; name = codes "CEST" }

-- what zone_spans compiles of it ends with 2099
abbrev made_set : FixedTimespanSet
made_set = record {
  first = cet;
  rest = (pos 4046979600, cest) ∷ (pos 4065123600, cet) ∷ (pos 4078429200, cest) ∷ (pos 4096573200, cet) ∷ [];
}

made_compiles : compiled rulesets made ≡ Ok made_set
unfolding compiled_over schedule_fault_over leaves_year_over some_year is_outside is_in_year zone_lines set_of_lines_over first_span sorted_entries_over entries_from_over entries_of_over next_start_over listed_from start_firing line_firings_over years_over firings_of_years year_firings fired earliest applies_to_year last_year moment abbreviation filled line_end instant_of named_day first_from weekday_of last_with is_leap days_in_year days_in_month days_after_zero year_start days_through days_into_year day collapsed kept_of kept_with without_first
made_compiles = refl

-- it turns
made_goes_on : GoesOn rulesets made
unfolding goes_on last_goes_on turns front_of last_of is_in_order dont_fall is_settled is_lasting start_after firings_from schedule_over compiled_over schedule_fault_over leaves_year_over some_year is_outside is_in_year zone_lines set_of_lines_over first_span sorted_entries_over entries_from_over entries_of_over next_start_over listed_from start_firing line_firings_over years_over firings_of_years year_firings fired earliest applies_to_year last_year moment abbreviation filled line_end instant_of named_day first_from weekday_of last_with is_leap days_in_year days_in_month days_after_zero year_start days_through days_into_year day collapsed kept_of kept_with without_first total_at totals_of
made_goes_on = refl

-- at both sides of its changes of 2150
made_in_2150 : map (λ t. total_for_ever rulesets made (at t)) (pos 5687801999 ∷ pos 5687802000 ∷ pos 5705945999 ∷ pos 5705946000 ∷ [])
    ≡ (pos 3600 ∷ pos 7200 ∷ pos 7200 ∷ pos 3600 ∷ [])
unfolding total_for_ever years_for cycles_at schedule_over compiled_over schedule_fault_over leaves_year_over some_year is_outside is_in_year zone_lines set_of_lines_over first_span sorted_entries_over entries_from_over entries_of_over next_start_over listed_from start_firing line_firings_over years_over firings_of_years year_firings fired earliest applies_to_year last_year moment abbreviation filled line_end instant_of named_day first_from weekday_of last_with is_leap days_in_year days_in_month days_after_zero year_start days_through days_into_year day collapsed kept_of kept_with without_first total_at totals_of
made_in_2150 = refl

-- and, by 1,100 years, at one of those of 2550
made_in_2550 : total_for_ever rulesets made (at (pos 18310582800)) ≡ pos 7200
unfolding total_for_ever years_for cycles_at schedule_over compiled_over schedule_fault_over leaves_year_over some_year is_outside is_in_year zone_lines set_of_lines_over first_span sorted_entries_over entries_from_over entries_of_over next_start_over listed_from start_firing line_firings_over years_over firings_of_years year_firings fired earliest applies_to_year last_year moment abbreviation filled line_end instant_of named_day first_from weekday_of last_with is_leap days_in_year days_in_month days_after_zero year_start days_through days_into_year day collapsed kept_of kept_with without_first total_at totals_of
made_in_2550 = refl

-- at all of them, by the law
later : (t : ℤ) → IsFrom2101 t → total_for_ever rulesets made (instant_on t) ≡ total_for_ever rulesets made t
later t late = (repeats-at rulesets made made_set t made_goes_on made_compiles late).0

made_by_law : map (λ t. total_for_ever rulesets made (at t)) (pos 18310582799 ∷ pos 18310582800 ∷ pos 18328726799 ∷ pos 18328726800 ∷ [])
    ≡ (pos 3600 ∷ pos 7200 ∷ pos 7200 ∷ pos 3600 ∷ [])
made_by_law =
    (λ i. later (at (pos 5687801999)) (le_z_yes tt) i ∷ later (at (pos 5687802000)) (le_z_yes tt) i
    ∷ later (at (pos 5705945999)) (le_z_yes tt) i ∷ later (at (pos 5705946000)) (le_z_yes tt) i ∷ [])
    ∙ made_in_2150

-- `Rule Cross 2098 max - Mar 1 2:00 1:00 -` and `Rule Cross 2098 max - Mar 1 1:30u 0 -`: with the saving that the year begins with
-- the first of them fires at 2:00 or at 1:00, behind the other or in front of it, so the saving alternates from year to year
abbrev march_first : ℤ → TimeType → ℤ → RuleInfo
march_first time clock saving = record {
  from_year = Number (pos 2098);
  to_year = Some Maximum;
  month = March;
  day = Ordinal (pos 1);
  time = time;
  time_type = clock;
  time_to_add = saving;
  letters = None;
}

abbrev crossing : Rulesets
crossing name = Some (march_first (pos 7200) Wall (pos 3600) ∷ march_first (pos 5400) UTC (pos 0) ∷ [])

-- `Zone Made/Cross 0:00 - GMT 2098`, ` 0:00 Cross GMT`
abbrev crossed : List ZoneInfo
crossed = record { offset = pos 0; saving = NoSaving; format = Constant (codes "GMT"); end_time = Some (UntilYear (Number (pos 2098))) }
    ∷ record { offset = pos 0; saving = Multiple (codes "Cross"); format = Constant (codes "GMT"); end_time = None } ∷ []

-- a cycle has an even number of years: it goes on
crossed_goes_on : GoesOn crossing crossed
unfolding goes_on last_goes_on turns front_of last_of is_in_order dont_fall is_settled is_lasting start_after firings_from schedule_over compiled_over schedule_fault_over leaves_year_over some_year is_outside is_in_year zone_lines set_of_lines_over first_span sorted_entries_over entries_from_over entries_of_over next_start_over listed_from start_firing line_firings_over years_over firings_of_years year_firings fired earliest applies_to_year last_year moment abbreviation filled line_end instant_of named_day first_from weekday_of last_with is_leap days_in_year days_in_month days_after_zero year_start days_through days_into_year day collapsed kept_of kept_with without_first total_at totals_of
crossed_goes_on = refl

-- from March 2150 to July 2151, over 353 years
crossed_in_2150 : map (λ t. total_at (schedule_over 353 crossing crossed) (at t))
    (pos 5685386399 ∷ pos 5685386400 ∷ pos 5697172800 ∷ pos 5716918800 ∷ pos 5716920599 ∷ pos 5716920600 ∷ pos 5728708800 ∷ [])
    ≡ (pos 0 ∷ pos 3600 ∷ pos 3600 ∷ pos 3600 ∷ pos 3600 ∷ pos 0 ∷ pos 0 ∷ [])
unfolding schedule_over compiled_over schedule_fault_over leaves_year_over some_year is_outside is_in_year zone_lines set_of_lines_over first_span sorted_entries_over entries_from_over entries_of_over next_start_over listed_from start_firing line_firings_over years_over firings_of_years year_firings fired earliest applies_to_year last_year moment abbreviation filled line_end instant_of named_day first_from weekday_of last_with is_leap days_in_year days_in_month days_after_zero year_start days_through days_into_year day collapsed kept_of kept_with without_first total_at totals_of
crossed_in_2150 = refl

-- `Rule Day 2098 max - Jan 1 0:00 1:00 -` and `Rule Day 2098 max - Jul 1 0:00 0 -` in a zone that is a day ahead: that of 2100 fires a
-- day before the year begins in UTC
abbrev first_of : Month → ℤ → RuleInfo
first_of month saving = record (march_first (pos 0) Wall saving) { month = month }

abbrev by_days : Rulesets
by_days name = Some (first_of January (pos 3600) ∷ first_of July (pos 0) ∷ [])

abbrev ahead : List ZoneInfo
ahead = record { offset = pos 86400; saving = NoSaving; format = Constant (codes "DAY"); end_time = Some (UntilYear (Number (pos 2098))) }
    ∷ record { offset = pos 86400; saving = Multiple (codes "Day"); format = Constant (codes "DAY"); end_time = None } ∷ []

until_the_first_rule : map (is_before_cycle (zone_lines by_days ahead)) (pos 4102358399999999999 ∷ pos 4102358400000000000 ∷ []) ≡ (true ∷ false ∷ [])
unfolding is_before_cycle last_of firings_from schedule_over compiled_over schedule_fault_over leaves_year_over some_year is_outside is_in_year zone_lines set_of_lines_over first_span sorted_entries_over entries_from_over entries_of_over next_start_over listed_from start_firing line_firings_over years_over firings_of_years year_firings fired earliest applies_to_year last_year moment abbreviation filled line_end instant_of named_day first_from weekday_of last_with is_leap days_in_year days_in_month days_after_zero year_start days_through days_into_year day collapsed kept_of kept_with without_first total_at totals_of
until_the_first_rule = refl

from_it_on : map (λ n. total_at (schedule_over n by_days ahead) (at (pos 4102358400))) (300 ∷ 302 ∷ []) ≡ (pos 86400 ∷ pos 90000 ∷ [])
unfolding schedule_over compiled_over schedule_fault_over leaves_year_over some_year is_outside is_in_year zone_lines set_of_lines_over first_span sorted_entries_over entries_from_over entries_of_over next_start_over listed_from start_firing line_firings_over years_over firings_of_years year_firings fired earliest applies_to_year last_year moment abbreviation filled line_end instant_of named_day first_from weekday_of last_with is_leap days_in_year days_in_month days_after_zero year_start days_through days_into_year day collapsed kept_of kept_with without_first total_at totals_of
from_it_on = refl
