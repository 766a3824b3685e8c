-- Zones that go on, and zones that don't, by one line or rule each.
use Rattle.std.{proofs.Common.{◌≡◌, refl, [], ◌∷◌, map, true, false, pos, codes, Some, None, Option, Err, List, ℤ, length, neg_ℤ}, specs.Option.{option_map_or}}
use Rattle.basics.specs.{Dates.{last_with}, Days.{days_after_zero, year_start, days_through, days_into_year, day, is_leap, days_in_year, days_in_month}, Weekdays.{weekday_of}}
use Rattle.zone_table.specs.{Days.{named_day, first_from, is_in_year}, declared.change.ChangeTime.TheVariants.{UntilYear}, declared.day.DaySpec.TheVariants.{FirstOnOrAfter}, declared.month.Month.TheVariants.{March, December}, declared.{weekday.Weekday.TheVariants.{Sunday}, year.Year.{Year}, year.Year.TheVariants.{Maximum, Number, Minimum}}, Formats.{abbreviation, filled}, Moments.{applies_to_year, instant_of, last_year, moment}, declared.zone.Format.TheVariants.{Constant}, declared.rule.RuleInfo.{RuleInfo}, declared.zone.Saving.TheVariants.{NoSaving, Multiple}, declared.zone.ZoneInfo.{ZoneInfo}}
use Rattle.zone_spans.specs.{Collapse.{kept_of, kept_with, collapsed, without_first}, Compiled.{compiled_over, set_of_lines_over}, Entries.{first_span, entries_from_over, entries_of_over, next_start_over, sorted_entries_over}}
use Rattle.zone_spans.specs.{Faults.{is_outside, some_year, leaves_year_over, schedule_fault_over}, Firings.{earliest, fired, year_firings, firings_of_years, line_firings_over, years_over}, Lines.{Rulesets, zone_lines}, Listing.{listed_from, start_firing}}
use Rattle.zone_spans.specs.{Schedules.{totals_of, total_at, schedule_over}, Windows.{line_end}, declared.fault.SpanFault.{SpanFault}}
use Rattle.zone_spans.specs.declared.fault.SpanFault.TheVariants.{DayRange, MissingUntil, NoMemory, NoStandardSpan, RuleYears, UnknownRuleset, YearRange}
use Rattle.zone_spans.specs.{GoesOn.{cycle_entries, dont_fall, front_of, goes_on, is_in_order, last_goes_on, last_of, some_leaves, turns}, Later.{firings_from, start_after}, Settled.{is_lasting, is_settled}}
use Rattle.tz_ever.{specs.ForEver.{ever_years}, specs.Opens.{ending_by, leaves_year}, specs.declared.open.EverFault.TheVariants.{LaterDay, RulesEnd}, proofs.cycle.ForEverRows.{last_sunday}}

abbrev ruled : ZoneInfo
ruled = record { offset = pos 3600; saving = Multiple (codes "R"); format = Constant (codes "CET"); end_time = None }

abbrev fixed_line : ZoneInfo
fixed_line = record ruled { saving = NoSaving }

abbrev until : Year → ZoneInfo
until year = record fixed_line { end_time = Some (UntilYear year) }

-- on the last Sunday of March, in these years
abbrev in_march : Year → Option Year → RuleInfo
in_march from to = record (last_sunday March (pos 3600) None) { from_year = from; to_year = to }

abbrev one : RuleInfo → Rulesets
one rule name = Some (rule ∷ [])

-- ---- rules
settled_rules : map is_settled (
    in_march (Number (pos 2099)) None ∷ in_march (Number (pos 2100)) None ∷ in_march (Number (pos 2099)) (Some Maximum)
    ∷ in_march (Number (pos 2100)) (Some Maximum) ∷ in_march (Number (pos 2000)) (Some (Number (pos 2099)))
    ∷ in_march (Number (pos 2000)) (Some (Number (pos 2100))) ∷ in_march Minimum (Some Maximum) ∷ []
    ) ≡ (true ∷ false ∷ true ∷ false ∷ true ∷ false ∷ true ∷ [])
unfolding is_settled last_year
settled_rules = refl

-- ---- still zones: of one line, of two, and with a rule that ended
still_zones : map (λ infos. goes_on (zone_lines (one (in_march (Number (pos 2050)) (Some (Number (pos 2051))))) infos))
    ((fixed_line ∷ []) ∷ (until (Number (pos 2099)) ∷ fixed_line ∷ []) ∷ (until (Number (pos 2000)) ∷ ruled ∷ []) ∷ [])
    ≡ (true ∷ true ∷ true ∷ [])
unfolding goes_on last_goes_on turns front_of last_of is_in_order dont_fall is_settled is_lasting start_after firings_from schedule_over compiled_over schedule_fault_over leaves_year_over some_year is_outside is_in_year zone_lines set_of_lines_over first_span sorted_entries_over entries_from_over entries_of_over next_start_over listed_from start_firing line_firings_over years_over firings_of_years year_firings fired earliest applies_to_year last_year moment abbreviation filled line_end instant_of named_day first_from weekday_of last_with is_leap days_in_year days_in_month days_after_zero year_start days_through days_into_year day collapsed kept_of kept_with without_first total_at totals_of
still_zones = refl

-- ---- no line; a line that ends in 2100; a last line with an end; and rules that aren't settled: from 2100 on, and to 2200
refused_lines : map (λ infos. goes_on (zone_lines (one (in_march (Number (pos 2050)) (Some (Number (pos 2051))))) infos))
    ([] ∷ (until (Number (pos 2100)) ∷ fixed_line ∷ []) ∷ (until (Number (pos 2000)) ∷ until (Number (pos 2050)) ∷ []) ∷ [])
    ≡ (false ∷ false ∷ false ∷ [])
unfolding goes_on last_goes_on turns front_of last_of is_in_order dont_fall is_settled is_lasting start_after firings_from schedule_over compiled_over schedule_fault_over leaves_year_over some_year is_outside is_in_year zone_lines set_of_lines_over first_span sorted_entries_over entries_from_over entries_of_over next_start_over listed_from start_firing line_firings_over years_over firings_of_years year_firings fired earliest applies_to_year last_year moment abbreviation filled line_end instant_of named_day first_from weekday_of last_with is_leap days_in_year days_in_month days_after_zero year_start days_through days_into_year day collapsed kept_of kept_with without_first total_at totals_of
refused_lines = refl

refused_rules : map (λ rule. goes_on (zone_lines (one rule) (ruled ∷ [])))
    (in_march (Number (pos 2100)) (Some Maximum) ∷ in_march (Number (pos 2000)) (Some (Number (pos 2200))) ∷ [])
    ≡ (false ∷ false ∷ [])
unfolding goes_on last_goes_on turns front_of last_of is_in_order dont_fall is_settled is_lasting start_after firings_from schedule_over compiled_over schedule_fault_over leaves_year_over some_year is_outside is_in_year zone_lines set_of_lines_over first_span sorted_entries_over entries_from_over entries_of_over next_start_over listed_from start_firing line_firings_over years_over firings_of_years year_firings fired earliest applies_to_year last_year moment abbreviation filled line_end instant_of named_day first_from weekday_of last_with is_leap days_in_year days_in_month days_after_zero year_start days_through days_into_year day collapsed kept_of kept_with without_first total_at totals_of
refused_rules = refl

-- ---- `Rule Late 2096 max - Dec Sun>=26`: its day leaves the year in 2101 for the first time, so 300 years show no fault and 302 do
abbrev late_sunday : RuleInfo
late_sunday = record (in_march (Number (pos 2096)) (Some Maximum)) {
  month = December;
  day = FirstOnOrAfter Sunday (pos 26);
  time_to_add = pos 0;
}

leaves_later : map (some_year (is_outside late_sunday)) (300 ∷ 301 ∷ 302 ∷ []) ≡ (false ∷ false ∷ true ∷ [])
unfolding some_year is_outside is_in_year applies_to_year last_year named_day first_from weekday_of last_with is_leap days_in_year days_in_month days_after_zero year_start days_through days_into_year day
leaves_later = refl

fault_later : map (λ n. schedule_fault_over n (one late_sunday) (until (Number (pos 2000)) ∷ ruled ∷ [])) (300 ∷ 301 ∷ 302 ∷ [])
    ≡ (None ∷ None ∷ Some DayRange ∷ [])
unfolding schedule_over compiled_over schedule_fault_over leaves_year_over some_year is_outside is_in_year zone_lines set_of_lines_over first_span sorted_entries_over entries_from_over entries_of_over next_start_over listed_from start_firing line_firings_over years_over firings_of_years year_firings fired earliest applies_to_year last_year moment abbreviation filled line_end instant_of named_day first_from weekday_of last_with is_leap days_in_year days_in_month days_after_zero year_start days_through days_into_year day collapsed kept_of kept_with without_first total_at totals_of
fault_later = refl

late_is_refused : goes_on (zone_lines (one late_sunday) (until (Number (pos 2000)) ∷ ruled ∷ [])) ≡ false
unfolding goes_on last_goes_on turns front_of last_of is_in_order dont_fall is_settled is_lasting start_after firings_from schedule_over compiled_over schedule_fault_over leaves_year_over some_year is_outside is_in_year zone_lines set_of_lines_over first_span sorted_entries_over entries_from_over entries_of_over next_start_over listed_from start_firing line_firings_over years_over firings_of_years year_firings fired earliest applies_to_year last_year moment abbreviation filled line_end instant_of named_day first_from weekday_of last_with is_leap days_in_year days_in_month days_after_zero year_start days_through days_into_year day collapsed kept_of kept_with without_first total_at totals_of
late_is_refused = refl

-- ---- a line that ends with 2098, at an offset that no source text has: so many seconds after 2099-01-01 00:00:00 UTC, and 2101
-- begins 730 days after it
abbrev behind : ℤ → ZoneInfo
behind seconds = record (until (Number (pos 2099))) { offset = neg_ℤ seconds }

ends_in_2100 : map (λ seconds. goes_on (zone_lines (one late_sunday) (behind seconds ∷ fixed_line ∷ []))) (pos 63071999 ∷ pos 63072000 ∷ [])
    ≡ (true ∷ false ∷ [])
unfolding goes_on last_goes_on turns front_of last_of is_in_order dont_fall is_settled is_lasting start_after firings_from schedule_over compiled_over schedule_fault_over leaves_year_over some_year is_outside is_in_year zone_lines set_of_lines_over first_span sorted_entries_over entries_from_over entries_of_over next_start_over listed_from start_firing line_firings_over years_over firings_of_years year_firings fired earliest applies_to_year last_year moment abbreviation filled line_end instant_of named_day first_from weekday_of last_with is_leap days_in_year days_in_month days_after_zero year_start days_through days_into_year day collapsed kept_of kept_with without_first total_at totals_of
ends_in_2100 = refl

-- ---- the cycle has the years 2100 to 2499
years_of_cycle : map (λ year. option_map_or (λ line. length (cycle_entries line)) (last_of (zone_lines (one (in_march (Number year) None)) (ruled ∷ []))) 0)
    (pos 2099 ∷ pos 2100 ∷ pos 2499 ∷ pos 2500 ∷ []) ≡ (0 ∷ 1 ∷ 1 ∷ 0 ∷ [])
unfolding last_of firings_from schedule_over compiled_over schedule_fault_over leaves_year_over some_year is_outside is_in_year zone_lines set_of_lines_over first_span sorted_entries_over entries_from_over entries_of_over next_start_over listed_from start_firing line_firings_over years_over firings_of_years year_firings fired earliest applies_to_year last_year moment abbreviation filled line_end instant_of named_day first_from weekday_of last_with is_leap days_in_year days_in_month days_after_zero year_start days_through days_into_year day collapsed kept_of kept_with without_first total_at totals_of
years_of_cycle = refl

-- ---- `Dec Sun>=31` in one year: December 31 is no Sunday in 2499, 2500, 2503 and 2504, so the day leaves the year; 700 years reach
-- to 2499, those of a zone for ever to 2503
abbrev new_year : ℤ → RuleInfo
new_year year = record late_sunday { from_year = Number year; to_year = None; day = FirstOnOrAfter Sunday (pos 31) }

leave_by_2499 : map (λ year. some_leaves (new_year year ∷ [])) (pos 2499 ∷ pos 2500 ∷ []) ≡ (true ∷ false ∷ [])
unfolding some_year is_outside is_in_year applies_to_year last_year named_day first_from weekday_of last_with is_leap days_in_year days_in_month days_after_zero year_start days_through days_into_year day
leave_by_2499 = refl

leave_by_2503 : map (λ year. leaves_year (Some (compiled_over ever_years (one (new_year year)) (until (Number (pos 2000)) ∷ ruled ∷ []))))
    (pos 2503 ∷ pos 2504 ∷ []) ≡ (true ∷ false ∷ [])
unfolding schedule_over compiled_over schedule_fault_over leaves_year_over some_year is_outside is_in_year zone_lines set_of_lines_over first_span sorted_entries_over entries_from_over entries_of_over next_start_over listed_from start_firing line_firings_over years_over firings_of_years year_firings fired earliest applies_to_year last_year moment abbreviation filled line_end instant_of named_day first_from weekday_of last_with is_leap days_in_year days_in_month days_after_zero year_start days_through days_into_year day collapsed kept_of kept_with without_first total_at totals_of
leave_by_2503 = refl

-- ---- of all faults a day's alone is told as one
abbrev faults : List SpanFault
faults = UnknownRuleset ∷ MissingUntil ∷ YearRange ∷ RuleYears ∷ DayRange ∷ NoStandardSpan ∷ NoMemory ∷ []

days_alone : map (λ fault. leaves_year (Some (Err fault))) faults ≡ (false ∷ false ∷ false ∷ false ∷ true ∷ false ∷ false ∷ [])
days_alone = refl

told_alone : map ending_by faults ≡ (RulesEnd ∷ RulesEnd ∷ RulesEnd ∷ RulesEnd ∷ LaterDay ∷ RulesEnd ∷ RulesEnd ∷ [])
told_alone = refl
