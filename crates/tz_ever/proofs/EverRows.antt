-- The zone of New York's last line in years far off, by what Python's zoneinfo says of America/New_York.
use Rattle.std.{proofs.Common.{◌≡◌, refl, [], ◌∷◌, map, take, drop, true, false, pos, List, codes, ℤ, ◌+ℤ◌, ◌-ℤ◌, ◌*ℤ◌, Bool, ℕ, ◌*◌, Some, None, Result, Ok, Err, is_ok}, specs.Ordering.{int_eq}}
use Rattle.basics.specs.{Dates.{last_with}, Days.{days_after_zero, year_start, days_through, days_into_year, day, is_leap, days_in_year, days_in_month}, Weekdays.{weekday_of}}
use Rattle.civil_base.specs.Instants.{instant_at}
use Rattle.zone_table.specs.{Days.{named_day, first_from, is_in_year}, declared.day.DaySpec.TheVariants.{FirstOnOrAfter}, declared.month.Month.{Month}, declared.month.Month.TheVariants.{March, November}, declared.time.TimeType.TheVariants.{Wall}, declared.{weekday.Weekday.TheVariants.{Sunday}, year.Year.TheVariants.{Maximum, Number}}, Formats.{abbreviation, filled}, Moments.{applies_to_year, instant_of, last_year, moment}, declared.zone.Format.TheVariants.{Placeholder}, declared.rule.RuleInfo.{RuleInfo}, declared.zone.Saving.TheVariants.{Multiple}, declared.zone.ZoneInfo.{ZoneInfo}}
use Rattle.zone_spans.specs.{Bounds.{is_bounded_line}, Collapse.{kept_of, kept_with, collapsed, without_first}, Compiled.{compiled, compiled_over, set_of_lines_over}}
use Rattle.zone_spans.specs.{Entries.{Entry, first_span, entries_from_over, entries_of_over, next_start_over, sorted_entries_over}, Faults.{is_outside, some_year, leaves_year_over, schedule_fault_over}}
use Rattle.zone_spans.specs.{Firings.{earliest, fired, year_firings, firings_of_years, line_firings_over, years_over}, Lines.{Rulesets, zone_lines}, Listing.{listed_from, start_firing}, Schedules.{totals_of, total_at}, Windows.{line_end}}
use Rattle.zone_spans.specs.{declared.fault.SpanFault.{SpanFault}, declared.span.FixedTimespan.{FixedTimespan}, GoesOn.{GoesOn, dont_fall, front_of, goes_on, is_in_order, last_goes_on, last_of, turns}, Later.{firings_from, start_after}}
use Rattle.zone_spans.specs.Settled.{is_lasting, is_settled}
use Rattle.zone_spans.specs.declared.span.FixedTimespanSet as spans
use Rattle.tz_ever.specs.{InForce.{span_by}, Ever.{ever_span, ever_total}, ForEver.{IsForEver, ever_years}, Seam.{brought_back, cycles_past, next_seam, seam}, Recurrences.{brought_on, turned}, Stretches.{cycle_begin, ever_begin, ever_end, zone_begin, zone_end}, Unrolled.{again, entries_before, entries_from, repeated_entries, told, unrolled_entries}}
use Rattle.tz_ever.specs.declared.recurrence.Recurrence.TheVariants.{Never, Later, Always}
use Rattle.tz_lookup.specs.{Stretches.{stretch_begin, stretch_end}, declared.set.FixedTimespanSet.{FixedTimespanSet}}

-- ---- the seam and its cycles: 2501-12-31 24:00 is 2102-01-01, and so is that of 2901; before it nothing moves
brought : map brought_back (
    pos 0 ∷ (seam -ℤ pos 1) ∷ seam ∷ (next_seam -ℤ pos 1) ∷ next_seam ∷ (next_seam +ℤ pos 1)
    ∷ (next_seam +ℤ pos 12622780799999999999) ∷ (next_seam +ℤ pos 12622780800000000000) ∷ []
    ) ≡ (pos 0 ∷ (seam -ℤ pos 1) ∷ seam ∷ (next_seam -ℤ pos 1) ∷ seam ∷ (seam +ℤ pos 1) ∷ (next_seam -ℤ pos 1) ∷ seam ∷ [])
unfolding brought_back cycles_past
brought = refl

-- as -9999, 1900 and 1970 begin, just before the seam and at it, just before the next one and at it: nothing is turned; what comes later
-- than the cycle is; and what comes before it too, to 2401-01-01, 2300-01-01, 2370-01-01 and the end of 2501
abbrev turnings : List ℤ
turnings =
    (pos 0 -ℤ pos 377705116800000000000) ∷ (pos 0 -ℤ pos 2208988800000000000) ∷ pos 0 ∷ (seam -ℤ pos 1) ∷ seam ∷ (next_seam -ℤ pos 1) ∷ next_seam ∷ []

turned_never : map (turned Never) turnings ≡ turnings
unfolding turned
turned_never = refl

turned_later : map (turned Later) turnings
    ≡ ((pos 0 -ℤ pos 377705116800000000000) ∷ (pos 0 -ℤ pos 2208988800000000000) ∷ pos 0 ∷ (seam -ℤ pos 1) ∷ seam ∷ (next_seam -ℤ pos 1) ∷ seam ∷ [])
unfolding turned brought_back cycles_past
turned_later = refl

turned_always : map (turned Always) turnings
    ≡ (pos 13601088000000000000 ∷ pos 10413792000000000000 ∷ pos 12622780800000000000 ∷ (next_seam -ℤ pos 1) ∷ seam ∷ (next_seam -ℤ pos 1) ∷ seam ∷ [])
unfolding turned brought_on brought_back cycles_past
turned_always = refl

abbrev est : FixedTimespan
est = record { utc_offset = pos 0 -ℤ pos 18000; dst_offset = pos 0; name = codes "EST" }

abbrev edt : FixedTimespan
edt = record { utc_offset = pos 0 -ℤ pos 18000; dst_offset = pos 3600; name = codes "EDT" }

-- ---- the entries of a table: a second before the cycle begins and as it begins, a second before its end and at it
abbrev change : ℤ → Entry
change second = (second, record { utc_offset = pos 0; dst_offset = pos 0; name = [] })

abbrev unrolled_times : List ℤ
unrolled_times = map (λ (e : Entry). e.0) (unrolled_entries
    (change (pos 4165516799) ∷ change (pos 4165516800) ∷ change (pos 16788297599) ∷ change (pos 16788297600) ∷ []))

-- those before 2502 as they are, and those from 2102 on again in each cycle: 2502-01-01 00:00:00, 2901-12-31 23:59:59, and so on
first_times : take 6 unrolled_times ≡ pos 4165516799 ∷ pos 4165516800 ∷ pos 16788297599 ∷ pos 16788297600 ∷ pos 29411078399 ∷ pos 29411078400 ∷ []
unfolding unrolled_entries entries_before entries_from again
first_times = refl

-- up to 10501-12-31 23:59:59
last_times : drop 41 unrolled_times ≡ pos 256621132800 ∷ pos 269243913599 ∷ []
unfolding unrolled_entries entries_before entries_from again
last_times = refl

-- where they come again always, those of the cycle alone, from -10298-01-01 00:00:00 on, and before them what is in force as it begins
abbrev repeated_times : List ℤ
repeated_times = map (λ (e : Entry). e.0) (repeated_entries
    (change (pos 4165516799) ∷ change (pos 4165516800) ∷ change (pos 16788297599) ∷ change (pos 16788297600) ∷ []))

first_repeated : take 3 repeated_times ≡ (pos 0 -ℤ pos 387140688000) ∷ (pos 0 -ℤ pos 374517907201) ∷ (pos 0 -ℤ pos 374517907200) ∷ []
unfolding repeated_entries entries_before entries_from again
first_repeated = refl

last_repeated : drop 102 repeated_times ≡ pos 256621132800 ∷ pos 269243913599 ∷ []
unfolding repeated_entries entries_before entries_from again
last_repeated = refl

first_in_force : (told Always (record { name = []; first = est; others = (pos 4165516799, edt) ∷ (pos 4165516800, est) ∷ [] })).first ≡ edt
unfolding span_by
first_in_force = refl

-- ---- seconds around one: the first cycle goes on from the years before it, no later one does, and none reaches past its end
abbrev changed : FixedTimespanSet
changed = record { name = []; first = (change (pos 0)).1; others = change (pos 4165516799) ∷ change (pos 4197052800) ∷ [] }

-- as the cycle begins, a year later, as the next one begins, and a year after that
abbrev moments : List ℤ
moments = pos 4165516800 ∷ pos 4197052800 ∷ pos 16788297600 ∷ pos 16819833600 ∷ []

stretches_begin : map (ever_begin changed) moments ≡ pos 4165516799 ∷ pos 4197052800 ∷ pos 16788297600 ∷ pos 16819833600 ∷ []
unfolding ever_begin stretch_begin cycles_past
stretches_begin = refl

stretches_end : map (ever_end changed) moments ≡ pos 4197052800 ∷ pos 16788297600 ∷ pos 16819833600 ∷ pos 29411078400 ∷ []
unfolding ever_end stretch_end cycles_past
stretches_end = refl

-- where the cycle comes again always, none goes on from the years before: as 1702 and 2102 begin
always_begins : map (zone_begin Always changed) ((pos 0 -ℤ pos 8457264000) ∷ pos 4165516800 ∷ []) ≡ (pos 0 -ℤ pos 8457264000) ∷ pos 4165516800 ∷ []
unfolding cycle_begin stretch_begin cycles_past
always_begins = refl

always_ends : map (zone_end Always changed) ((pos 0 -ℤ pos 8457264000) ∷ pos 4165516800 ∷ []) ≡ (pos 0 -ℤ pos 8425728000) ∷ pos 4197052800 ∷ []
unfolding ever_end stretch_end cycles_past
always_ends = refl

-- `Rule US 2007 max - Mar Sun>=8 2:00 1:00 D` and `Rule US 2007 max - Nov Sun>=1 2:00 0 S`
abbrev sunday : Month → ℤ → ℤ → List ℕ → RuleInfo
sunday month from saving letters = record {
  from_year = Number (pos 2007);
  to_year = Some Maximum;
  month = month;
  day = FirstOnOrAfter Sunday from;
  time = pos 7200;
  time_type = Wall;
  time_to_add = saving;
  letters = Some letters;
}

abbrev rulesets : Rulesets
rulesets name = Some (sunday March (pos 8) (pos 3600) (codes "D") ∷ sunday November (pos 1) (pos 0) (codes "S") ∷ [])

-- `Zone Made/York -5:00 US E%sT`
abbrev york : List ZoneInfo
york = record { offset = pos 0 -ℤ pos 18000; saving = Multiple (codes "US"); format = Placeholder (codes "E%sT"); end_time = None } ∷ []

abbrev told_by : Result spans.FixedTimespanSet SpanFault → spans.FixedTimespanSet
told_by (Ok set) = set
told_by (Err fault) = record { first = est; rest = [] }

is_told : (due : Result spans.FixedTimespanSet SpanFault) → is_ok due ≡ true → due ≡ Ok (told_by due)
is_told (Ok set) h = refl
is_told (Err fault) h = cc

abbrev made : FixedTimespanSet
made = record {
  name = codes "Made/York";
  first = (told_by (compiled_over ever_years rulesets york)).first;
  others = (told_by (compiled_over ever_years rulesets york)).rest;
}

-- an instant in nanoseconds, by its second
abbrev at : ℤ → ℤ
at second = second *ℤ pos 1000000000

-- at both sides of the changes of 2099 to 2102, 2501, 2502 and 9999, and of the ends of 2099, 2100, 2101, 2501 and 2901
totals : map (λ t. ever_total made (at t)) (
    pos 4070908799 ∷ pos 4076636399 ∷ pos 4076636400 ∷ pos 4097195999 ∷ pos 4097196000 ∷ pos 4102444799 ∷ pos 4102444800
    ∷ pos 4108690799 ∷ pos 4108690800 ∷ pos 4129250399 ∷ pos 4129250400 ∷ pos 4133980799 ∷ pos 4133980800
    ∷ pos 4140140399 ∷ pos 4140140400 ∷ pos 4160699999 ∷ pos 4160700000 ∷ pos 4165516799 ∷ pos 4165516800
    ∷ pos 16762921199 ∷ pos 16762921200 ∷ pos 16783480799 ∷ pos 16783480800 ∷ pos 16788297599 ∷ pos 16788297600
    ∷ pos 16794370799 ∷ pos 16794370800 ∷ pos 16814930399 ∷ pos 16814930400 ∷ pos 29411078399 ∷ pos 29411078400
    ∷ pos 253377010799 ∷ pos 253377010800 ∷ pos 253397570399 ∷ pos 253397570400 ∷ []
    ) ≡ map (λ hours. pos 0 -ℤ pos (hours * 3600)) (
    5 ∷ 5 ∷ 4 ∷ 4 ∷ 5 ∷ 5 ∷ 5
    ∷ 5 ∷ 4 ∷ 4 ∷ 5 ∷ 5 ∷ 5
    ∷ 5 ∷ 4 ∷ 4 ∷ 5 ∷ 5 ∷ 5
    ∷ 5 ∷ 4 ∷ 4 ∷ 5 ∷ 5 ∷ 5
    ∷ 5 ∷ 4 ∷ 4 ∷ 5 ∷ 5 ∷ 5
    ∷ 5 ∷ 4 ∷ 4 ∷ 5 ∷ []
    )
unfolding ever_total brought_back cycles_past compiled_over schedule_fault_over leaves_year_over some_year is_outside is_in_year zone_lines set_of_lines_over first_span sorted_entries_over entries_from_over entries_of_over next_start_over listed_from start_firing line_firings_over years_over firings_of_years year_firings fired earliest applies_to_year last_year moment abbreviation filled line_end instant_of named_day first_from weekday_of last_with is_leap days_in_year days_in_month days_after_zero year_start days_through days_into_year day collapsed kept_of kept_with without_first total_at totals_of
totals = refl

-- in the summer and the winter of 9999
names : map (λ t. ever_span made (at t)) (pos 253377010800 ∷ pos 253397570400 ∷ []) ≡ (edt ∷ est ∷ [])
unfolding ever_span brought_back cycles_past span_by compiled_over schedule_fault_over leaves_year_over some_year is_outside is_in_year zone_lines set_of_lines_over first_span sorted_entries_over entries_from_over entries_of_over next_start_over listed_from start_firing line_firings_over years_over firings_of_years year_firings fired earliest applies_to_year last_year moment abbreviation filled line_end instant_of named_day first_from weekday_of last_with is_leap days_in_year days_in_month days_after_zero year_start days_through days_into_year day collapsed kept_of kept_with without_first total_at totals_of
names = refl

-- the offsets of 5 and of 4 hours at which local times are read: 02:30 on 9999-03-14 is none, 01:30 on 9999-11-07 is read at both,
-- and noon of 9999-12-31 is read at the first
abbrev is_read : ℤ → ℤ → Bool
is_read x o = int_eq (ever_total made (instant_at x o)) o

locals : map {B = Bool × Bool} (λ x. (is_read (at x) (pos 0 -ℤ pos 14400), is_read (at x) (pos 0 -ℤ pos 18000))) (pos 253376994600 ∷ pos 253397554200 ∷ pos 253402257600 ∷ [])
    ≡ ((false, false) ∷ (true, true) ∷ (false, true) ∷ [])
unfolding ever_total brought_back cycles_past compiled_over schedule_fault_over leaves_year_over some_year is_outside is_in_year zone_lines set_of_lines_over first_span sorted_entries_over entries_from_over entries_of_over next_start_over listed_from start_firing line_firings_over years_over firings_of_years year_firings fired earliest applies_to_year last_year moment abbreviation filled line_end instant_of named_day first_from weekday_of last_with is_leap days_in_year days_in_month days_after_zero year_start days_through days_into_year day collapsed kept_of kept_with without_first total_at totals_of
locals = refl

-- it goes on, so the laws hold of it
goes : GoesOn rulesets york
unfolding goes_on last_goes_on turns front_of last_of is_in_order dont_fall is_settled is_lasting start_after firings_from compiled_over schedule_fault_over leaves_year_over some_year is_outside is_in_year zone_lines set_of_lines_over first_span sorted_entries_over entries_from_over entries_of_over next_start_over listed_from start_firing line_firings_over years_over firings_of_years year_firings fired earliest applies_to_year last_year moment abbreviation filled line_end instant_of named_day first_from weekday_of last_with is_leap days_in_year days_in_month days_after_zero year_start days_through days_into_year day collapsed kept_of kept_with without_first total_at totals_of
goes = refl

zone : IsForEver rulesets york made
unfolding is_bounded_line compiled_over schedule_fault_over leaves_year_over some_year is_outside is_in_year zone_lines set_of_lines_over first_span sorted_entries_over entries_from_over entries_of_over next_start_over listed_from start_firing line_firings_over years_over firings_of_years year_firings fired earliest applies_to_year last_year moment abbreviation filled line_end instant_of named_day first_from weekday_of last_with is_leap days_in_year days_in_month days_after_zero year_start days_through days_into_year day collapsed kept_of kept_with without_first total_at totals_of
zone = record {
  goes_on = goes;
  bounded = refl;
  today = told_by (compiled rulesets york);
  compiles = is_told (compiled rulesets york) refl;
  range = refl;
  set_is = is_told (compiled_over ever_years rulesets york) refl;
}
