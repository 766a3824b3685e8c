-- The entries of zones, the collapse and the faults, at worked rows.
use Rattle.std.specs.{Prelude.{◌≡◌, ℕ, List, [], ◌∷◌, map, Option, Some, None, Result, Ok, Err, ℤ, pos, negsuc, codes, true, false, refl}, Ordering.{int_eq}}
use Rattle.basics.specs.{Days.{days_after_zero, year_start, days_through, days_into_year, day, is_leap, days_in_year, days_in_month}, Dates.{last_with}, Weekdays.{weekday_of}}
use Rattle.zone_table.specs.{Days.{named_day, first_from, is_in_year}, declared.change.ChangeTime.{ChangeTime}, declared.change.ChangeTime.TheVariants.{UntilYear, UntilDay, UntilTime}, declared.day.DaySpec.TheVariants.{Ordinal, LastOnOrBefore}, declared.{month.Month.TheVariants.{January, April, October, December}, time.TimeSpec.TheVariants.{Hours, Zero}, time.TimeType.TheVariants.{Wall, Standard, UTC}, weekday.Weekday.TheVariants.{Sunday}}, declared.year.Year.TheVariants.{Minimum, Number}, Formats.{abbreviation, filled}, Moments.{applies_to_year, instant_of, last_year, moment}, declared.zone.Format.TheVariants.{Alternate, Constant, Placeholder}, declared.rule.RuleInfo.{RuleInfo}, declared.zone.Saving.{Saving}, declared.zone.{Saving.TheVariants.{NoSaving, OneOff, Multiple}, ZoneInfo.{ZoneInfo}}}
use Rattle.zone_spans.specs.declared.{fault.SpanFault.{SpanFault}, fault.SpanFault.TheVariants.{UnknownRuleset, MissingUntil, YearRange, RuleYears, DayRange, NoStandardSpan, NoMemory}, span.FixedTimespan.{FixedTimespan}}
use Rattle.zone_spans.specs.{declared.span.FixedTimespanSet.{FixedTimespanSet}, Bounds.{is_bounded, is_small}, Collapse.{collapsed, kept_of, kept_with, without_first}, Compiled.{compiled, compiled_over, set_of_lines, set_of_lines_over}}
use Rattle.zone_spans.specs.{Entries.{Entry, entries_from_over, entries_of_over, first_span, next_start_over, sorted_entries_over}, FaultNames.{fault_name}, Faults.{is_outside, leaves_year_over, schedule_fault, schedule_fault_over, some_year}}
use Rattle.zone_spans.specs.{Firings.{earliest, fired, firings_of_years, line_firings_over, year_firings, years_over}, Lines.{Line, Rulesets, zone_lines}, Listing.{listed_from, start_firing}}
use Rattle.zone_spans.specs.{Schedules.{Schedule, down_from, is_in_offset_range, offset_count, total_at, totals_of}, Windows.{line_end}}
use Rattle.zone_spans.proofs.FiringRows.{yearly}

abbrev span : ℤ → ℤ → List ℕ → FixedTimespan
span utc_offset dst_offset name = record { utc_offset = utc_offset; dst_offset = dst_offset; name = name }

abbrev line : ℤ → Saving → List ℕ → Option ChangeTime → ZoneInfo
line offset saving name end = record { offset = offset; saving = saving; format = Constant name; end_time = end }

-- no ruleset
abbrev none : Rulesets
none name = None

-- each name finds these rules
abbrev all : List RuleInfo → Rulesets
all rules name = Some rules

-- ---- whole zones

-- an hour ahead by a saving, up to this end
abbrev ending : ChangeTime → Result FixedTimespanSet SpanFault
ending end = compiled none (line (pos 3600) (OneOff (pos 3600)) (codes "A") (Some end) ∷ line (pos 0) NoSaving (codes "B") None ∷ [])

abbrev ended : ℤ → Result FixedTimespanSet SpanFault
ended time = Ok (record { first = span (pos 3600) (pos 3600) (codes "A"); rest = (time, span (pos 0) (pos 0) (codes "B")) ∷ [] })

-- three spans
abbrev three : FixedTimespan → Entry → Entry → Result FixedTimespanSet SpanFault
three first second third = Ok (record { first = first; rest = second ∷ third ∷ [] })

-- `Zone Test/Mark 1:00 1:00 A 2000 Jan 1 0:00s`, ` 0:00 - B`; and `Zone Test/Wall 1:00 1:00 A 2000`, ` 0:00 - B`: the wall's clock is two hours
-- ahead at the end, since the line's own saving is in force there
by_mark : (ending (UntilTime (Number (pos 2000)) January (Ordinal (pos 1)) (record { 0 = Zero; 1 = Standard })) ≡ ended (pos 946681200))
    × (ending (UntilYear (Number (pos 2000))) ≡ ended (pos 946677600))
unfolding compiled_over schedule_fault_over leaves_year_over zone_lines set_of_lines_over first_span sorted_entries_over entries_from_over entries_of_over next_start_over line_firings_over years_over abbreviation line_end is_in_year instant_of named_day is_leap days_in_year days_in_month days_after_zero year_start days_through days_into_year day collapsed kept_of kept_with without_first
by_mark = (refl, refl)

-- `Zone Test/Knot 10:00 - A 2000`, ` 5:00 - B 1999 Dec 31 20:00`, ` 0:00 - C`: both stay, though the second began before the local
-- end of the first
knot : compiled none (line (pos 36000) NoSaving (codes "A") (Some (UntilYear (Number (pos 2000))))
    ∷ line (pos 18000) NoSaving (codes "B") (Some (UntilTime (Number (pos 1999)) December (Ordinal (pos 31))
    (record { 0 = Hours (pos 20); 1 = Wall })))
    ∷ line (pos 0) NoSaving (codes "C") None ∷ [])
    ≡ three (span (pos 36000) (pos 0) (codes "A")) (pos 946648800, span (pos 18000) (pos 0) (codes "B")) (pos 946652400, span (pos 0) (pos 0) (codes "C"))
unfolding compiled_over schedule_fault_over leaves_year_over zone_lines set_of_lines_over first_span sorted_entries_over entries_from_over entries_of_over next_start_over line_firings_over years_over abbreviation line_end is_in_year instant_of named_day is_leap days_in_year days_in_month days_after_zero year_start days_through days_into_year day collapsed kept_of kept_with without_first
knot = refl

-- `Zone Test/Second 0:00 - A 2000`, ` 1:00 - B 2000 Jan 1 1:00`, ` 2:00 - C`: the last two begin at one second, and the later line has the last word
one_second : compiled none (line (pos 0) NoSaving (codes "A") (Some (UntilYear (Number (pos 2000))))
    ∷ line (pos 3600) NoSaving (codes "B") (Some (UntilTime (Number (pos 2000)) January (Ordinal (pos 1)) (record { 0 = Hours (pos 1); 1 = Wall })))
    ∷ line (pos 7200) NoSaving (codes "C") None ∷ [])
    ≡ three (span (pos 0) (pos 0) (codes "A")) (pos 946684800, span (pos 3600) (pos 0) (codes "B")) (pos 946684800, span (pos 7200) (pos 0) (codes "C"))
unfolding compiled_over schedule_fault_over leaves_year_over zone_lines set_of_lines_over first_span sorted_entries_over entries_from_over entries_of_over next_start_over line_firings_over years_over abbreviation line_end is_in_year instant_of named_day is_leap days_in_year days_in_month days_after_zero year_start days_through days_into_year day collapsed kept_of kept_with without_first
one_second = refl

-- a rule of these years that fires at 0:00 of the wall's clock
abbrev at_midnight : ℤ → ℤ → ℤ → Option (List ℕ) → RuleInfo
at_midnight first last saving letters =
    record (yearly January (Ordinal (pos 1)) (pos 0) saving []) {
      from_year = Number first;
      to_year = Some
          (Number last);
      letters = letters;
    }

-- the first lines of `Europe/Madrid` with its rules of 1918, the second of which is by standard time: an entry at the start of the second
-- line has the name of the first rule that ends a saving, and the second rule's firing of 1919 is past the line's end
abbrev spain : List RuleInfo
spain = record (at_midnight (pos 1918) (pos 1918) (pos 3600) (Some (codes "S"))) { month = April; day = Ordinal (pos 15); time = pos 82800 }
    ∷ record (at_midnight (pos 1918) (pos 1919) (pos 0) None) {
      month = October;
      day = Ordinal
          (pos 6);
      time = pos 86400;
      time_type = Standard;
    } ∷ []

madrid : compiled (all spain) (line (negsuc 883) NoSaving (codes "LMT")
    (Some (UntilTime (Number (pos 1901)) January (Ordinal (pos 1)) (record { 0 = Zero; 1 = UTC })))
    ∷ record (line (pos 0) (Multiple (codes "Spain")) [] (Some (UntilYear (Number (pos 1919))))) { format = Placeholder (codes "WE%sT") }
    ∷ line (pos 3600) NoSaving (codes "CET") None ∷ [])
    ≡ Ok (record {
      first = span (negsuc 883) (pos 0) (codes "LMT");
      rest = (negsuc 2177452799, span (pos 0) (pos 0) (codes "WET")) ∷ (negsuc 1631926799, span (pos 0) (pos 3600) (codes "WEST"))
          ∷ (negsuc 1616889599, span (pos 0) (pos 0) (codes "WET")) ∷ (negsuc 1609459199, span (pos 3600) (pos 0) (codes "CET")) ∷ [];
    })
unfolding compiled_over schedule_fault_over leaves_year_over some_year is_outside zone_lines set_of_lines_over first_span sorted_entries_over entries_from_over entries_of_over next_start_over listed_from start_firing line_firings_over years_over firings_of_years year_firings fired earliest applies_to_year last_year moment abbreviation filled line_end is_in_year instant_of named_day is_leap days_in_year days_in_month days_after_zero year_start days_through days_into_year day collapsed kept_of kept_with without_first
madrid = refl

-- a ruled first line begins with its first entry of no saving, which here comes second
abbrev turned : List RuleInfo
turned = at_midnight (pos 1800) (pos 1800) (pos 3600) (Some (codes "A")) ∷ at_midnight (pos 1801) (pos 1801) (pos 0) (Some (codes "B")) ∷ []

standard_first : set_of_lines (record {
  info = record (line (pos 0) (Multiple []) [] None) {
    format = Placeholder
        (codes "%s");
  };
  rules = turned;
  end = None;
} ∷ [])
    ≡ Ok (record {
      first = span (pos 0) (pos 0) (codes "B");
      rest = (negsuc 5364662399, span (pos 0) (pos 3600) (codes "A")) ∷ (negsuc 5333129999, span (pos 0) (pos 0) (codes "B")) ∷ [];
    })
unfolding set_of_lines_over first_span sorted_entries_over entries_from_over entries_of_over next_start_over line_firings_over years_over firings_of_years year_firings fired earliest applies_to_year last_year moment abbreviation filled instant_of named_day is_leap days_in_year days_in_month days_after_zero year_start days_through days_into_year day collapsed kept_of kept_with without_first
standard_first = refl

-- and with the one that comes first in time, be it of the last line
abbrev turned_lines : List Line
turned_lines =
    record {
      info = record (line (pos 0) (Multiple []) [] None) {
        format = Placeholder
            (codes "%s");
      };
      rules = turned;
      end = Some (UntilYear (Number (pos 1802)));
    }
    ∷ record { info = line (pos 0) (OneOff (pos 3600)) (codes "C") None; rules = []; end = Some (UntilYear (Number (pos 1800))) }
    ∷ record { info = line (pos 0) NoSaving (codes "D") None; rules = []; end = None } ∷ []

abbrev first_name : Result FixedTimespanSet SpanFault → List ℕ
first_name (Ok set) = set.first.name
first_name (Err fault) = fault_name fault

first_in_time : first_name (set_of_lines turned_lines) ≡ codes "D"
unfolding set_of_lines_over first_span sorted_entries_over entries_from_over entries_of_over next_start_over listed_from start_firing line_firings_over years_over firings_of_years year_firings fired earliest applies_to_year last_year moment abbreviation filled line_end instant_of named_day is_leap days_in_year days_in_month days_after_zero year_start days_through days_into_year day collapsed kept_of kept_with without_first
first_in_time = refl

-- a saving below 0 is one: `IST` comes before all, though `GMT` is the first entry; and where each entry has a saving nothing does
abbrev a_ruled : Line
a_ruled = record { info = line (pos 3600) (Multiple []) (codes "A") None; rules = []; end = None }

below_0 : map (first_span (a_ruled ∷ []))
    (((pos 1, span (pos 3600) (negsuc 3599) (codes "GMT")) ∷ (pos 2, span (pos 3600) (pos 0) (codes "IST")) ∷ [])
    ∷ ((pos 1, span (pos 3600) (negsuc 3599) (codes "GMT")) ∷ (pos 2, span (pos 0) (pos 3600) (codes "BST")) ∷ []) ∷ [])
    ≡ Some (span (pos 3600) (pos 0) (codes "IST")) ∷ None ∷ []
unfolding first_span
below_0 = refl

-- the next line starts under the last saving of the one before it, and without one
saving_stays : compiled (all (at_midnight (pos 1800) (pos 1800) (pos 3600) None ∷ []))
    (line (pos 0) (Multiple []) (codes "A") (Some (UntilYear (Number (pos 1801)))) ∷ line (pos 0) NoSaving (codes "B") None ∷ [])
    ≡ Ok (record {
      first = span (pos 0) (pos 0) (codes "B");
      rest = (negsuc 5364662399, span (pos 0) (pos 3600) (codes "A")) ∷ (negsuc 5333129999, span (pos 0) (pos 0) (codes "B")) ∷ [];
    })
unfolding compiled_over schedule_fault_over leaves_year_over some_year is_outside zone_lines set_of_lines_over first_span sorted_entries_over entries_from_over entries_of_over next_start_over listed_from start_firing line_firings_over years_over firings_of_years year_firings fired earliest applies_to_year last_year moment abbreviation filled line_end is_in_year instant_of named_day is_leap days_in_year days_in_month days_after_zero year_start days_through days_into_year day collapsed kept_of kept_with without_first
saving_stays = refl

-- a fixed line's saving decides its name, and its format is given no letters
one_off : map (λ (l : ZoneInfo). compiled none (l ∷ []))
    (record (line (pos 0) (OneOff (pos 3600)) [] None) { format = Alternate (codes "GMT") (codes "BST") }
    ∷ record (line (pos 0) NoSaving [] None) { format = Placeholder (codes "X%sT") } ∷ [])
    ≡ Ok (record { first = span (pos 0) (pos 3600) (codes "BST"); rest = [] })
    ∷ Ok (record { first = span (pos 0) (pos 0) (codes "XT"); rest = [] }) ∷ []
unfolding compiled_over schedule_fault_over leaves_year_over zone_lines set_of_lines_over first_span sorted_entries_over entries_from_over entries_of_over next_start_over line_firings_over years_over abbreviation filled collapsed kept_of kept_with without_first
one_off = refl

-- the last firing before a line's start gives the saving and the name there, and firings are read with the line's own offset
start_saving : compiled (all (at_midnight (pos 1800) (pos 1800) (pos 3600) (Some (codes "S"))
    ∷ at_midnight (pos 1802) (pos 1802) (pos 0) None ∷ []))
    (line (pos 0) NoSaving (codes "A") (Some (UntilYear (Number (pos 1801))))
    ∷ record (line (pos 3600) (Multiple []) [] None) { format = Placeholder (codes "X%s") } ∷ [])
    ≡ Ok (record {
      first = span (pos 0) (pos 0) (codes "A");
      rest = (negsuc 5333126399, span (pos 3600) (pos 3600) (codes "XS")) ∷ (negsuc 5301597599, span (pos 3600) (pos 0) (codes "X")) ∷ [];
    })
unfolding compiled_over schedule_fault_over leaves_year_over some_year is_outside zone_lines set_of_lines_over first_span sorted_entries_over entries_from_over entries_of_over next_start_over listed_from start_firing line_firings_over years_over firings_of_years year_firings fired earliest applies_to_year last_year moment abbreviation filled line_end is_in_year instant_of named_day is_leap days_in_year days_in_month days_after_zero year_start days_through days_into_year day collapsed kept_of kept_with without_first
start_saving = refl

-- ---- faults

abbrev plain : Option ChangeTime → ZoneInfo
plain end = line (pos 0) NoSaving (codes "B") end

-- January's last Sunday on or before the 1st: in 1800, which began on a Wednesday, a day of 1799
abbrev outside : RuleInfo
outside = record (at_midnight (pos 1800) (pos 1800) (pos 3600) None) { day = LastOnOrBefore Sunday (pos 1) }

rules_outside : is_outside outside (pos 1800) ∷ is_outside outside (pos 1801)
    ∷ is_outside (at_midnight (pos 1800) (pos 1800) (pos 0) None) (pos 1800) ∷ []
    ≡ true ∷ false ∷ false ∷ []
unfolding is_outside applies_to_year last_year is_in_year named_day first_from last_with weekday_of is_leap days_in_year days_in_month days_after_zero year_start days_through days_into_year day
rules_outside = refl

-- the same rule of 1802 alone, which began on a Friday, leaves a line's years only where the line expands 1802
outside_late : map (λ year. leaves_year_over 300 (record {
  info = plain None;
  rules = record outside { from_year = Number (pos 1802); to_year = None } ∷ [];
  end = Some (UntilYear (Number year));
})) (pos 1801 ∷ pos 1802 ∷ []) ≡ false ∷ true ∷ []
unfolding leaves_year_over some_year years_over is_outside applies_to_year last_year is_in_year named_day first_from last_with weekday_of is_leap days_in_year days_in_month days_after_zero year_start days_through days_into_year day
outside_late = refl

-- 300 years from 1800 on
years_of_300 : some_year (λ y. int_eq y (pos 2099)) 300 ∷ some_year (λ y. int_eq y (pos 2100)) 300 ∷ some_year (λ y. int_eq y (pos 1800)) 1
    ∷ some_year (λ y. int_eq y (pos 1799)) 300 ∷ [] ≡ true ∷ false ∷ true ∷ false ∷ []
unfolding some_year
years_of_300 = refl

-- a rule whose first year is no number
abbrev yearless : RuleInfo
yearless = record outside { from_year = Minimum }

abbrev ruled : Option ChangeTime → ZoneInfo
ruled end = line (pos 0) (Multiple (codes "R")) (codes "A") end

abbrev saving : ZoneInfo
saving = line (pos 0) (OneOff (pos 3600)) (codes "C") None

abbrev in_1800 : Option ChangeTime
in_1800 = Some (UntilYear (Number (pos 1800)))

-- each fault comes before the ones that follow it, which are met here too
faults : schedule_fault none (ruled None ∷ saving ∷ [])
    ∷ schedule_fault (all []) (plain None ∷ plain (Some (UntilYear Minimum)) ∷ saving ∷ [])
    ∷ schedule_fault (all (yearless ∷ [])) (ruled (Some (UntilYear (Number (pos 10000)))) ∷ saving ∷ [])
    ∷ schedule_fault (all (yearless ∷ [])) (ruled in_1800 ∷ saving ∷ [])
    ∷ schedule_fault (all (outside ∷ [])) (ruled in_1800 ∷ saving ∷ [])
    ∷ schedule_fault (all []) (ruled in_1800 ∷ saving ∷ []) ∷ []
    ≡ map Some (UnknownRuleset ∷ MissingUntil ∷ YearRange ∷ RuleYears ∷ DayRange ∷ NoStandardSpan ∷ [])
unfolding schedule_fault_over leaves_year_over some_year is_outside zone_lines entries_from_over entries_of_over next_start_over listed_from start_firing line_firings_over years_over firings_of_years year_firings fired earliest applies_to_year last_year moment abbreviation line_end is_in_year instant_of named_day first_from last_with weekday_of is_leap days_in_year days_in_month days_after_zero year_start days_through days_into_year day
faults = refl

-- each is a fault of a later line too: an unknown ruleset of the last one as well, and of the middle one no end, an end in no year, a rule
-- without years and one whose day lies in another year
later_faults : schedule_fault none (plain in_1800 ∷ ruled None ∷ [])
    ∷ schedule_fault none (plain in_1800 ∷ plain None ∷ saving ∷ [])
    ∷ schedule_fault none (plain in_1800 ∷ plain (Some (UntilYear (Number (pos 10000)))) ∷ saving ∷ [])
    ∷ schedule_fault (all (yearless ∷ [])) (plain in_1800 ∷ ruled in_1800 ∷ saving ∷ [])
    ∷ schedule_fault (all (outside ∷ [])) (plain in_1800 ∷ ruled in_1800 ∷ saving ∷ []) ∷ []
    ≡ map Some (UnknownRuleset ∷ MissingUntil ∷ YearRange ∷ RuleYears ∷ DayRange ∷ [])
unfolding schedule_fault_over leaves_year_over some_year is_outside zone_lines entries_from_over entries_of_over next_start_over listed_from start_firing line_firings_over years_over firings_of_years year_firings fired earliest applies_to_year last_year moment abbreviation line_end is_in_year instant_of named_day first_from last_with weekday_of is_leap days_in_year days_in_month days_after_zero year_start days_through days_into_year day
later_faults = refl

-- a rule without years is one also where its line expands no year
rule_without_years : schedule_fault (all (yearless ∷ [])) (ruled (Some (UntilYear (Number (pos 1799)))) ∷ plain None ∷ []) ≡ Some RuleYears
unfolding schedule_fault_over leaves_year_over some_year is_outside zone_lines entries_from_over entries_of_over next_start_over listed_from start_firing line_firings_over years_over firings_of_years year_firings fired earliest applies_to_year last_year moment abbreviation line_end is_in_year instant_of named_day first_from last_with weekday_of is_leap days_in_year days_in_month days_after_zero year_start days_through days_into_year day
rule_without_years = refl

-- no line; an end in the year 0; an end whose day is of 1799
more_faults : schedule_fault none [] ∷ schedule_fault none (plain (Some (UntilYear (Number (pos 0)))) ∷ saving ∷ [])
    ∷ schedule_fault none (plain (Some (UntilDay (Number (pos 1800)) January (LastOnOrBefore Sunday (pos 1)))) ∷ saving ∷ []) ∷ []
    ≡ map Some (NoStandardSpan ∷ YearRange ∷ DayRange ∷ [])
unfolding schedule_fault_over leaves_year_over zone_lines entries_from_over entries_of_over next_start_over listed_from start_firing line_firings_over years_over abbreviation line_end is_in_year instant_of named_day first_from last_with weekday_of is_leap days_in_year days_in_month days_after_zero year_start days_through days_into_year day
more_faults = refl

-- the end of the last line has no part in anything, and a fixed first line needs no entry without a saving
no_faults : schedule_fault none (plain (Some (UntilYear Minimum)) ∷ []) ∷ schedule_fault none (plain in_1800 ∷ saving ∷ [])
    ∷ [] ≡ None ∷ None ∷ []
unfolding schedule_fault_over leaves_year_over zone_lines entries_from_over entries_of_over next_start_over line_firings_over years_over abbreviation line_end is_in_year instant_of named_day is_leap days_in_year days_in_month days_after_zero year_start days_through days_into_year day
no_faults = refl

names_of_faults : map fault_name (UnknownRuleset ∷ MissingUntil ∷ YearRange ∷ RuleYears ∷ DayRange ∷ NoStandardSpan ∷ NoMemory ∷ [])
    ≡ codes "UnknownRuleset" ∷ codes "MissingUntil" ∷ codes "YearRange" ∷ codes "RuleYears" ∷ codes "DayRange" ∷ codes "NoStandardSpan"
    ∷ codes "NoMemory" ∷ []
names_of_faults = refl

-- ---- the collapse

-- the entries of `Australia/Sydney` that parse-zoneinfo's own test has, with a first span that one of them has too
abbrev aest : FixedTimespan
aest = span (pos 36000) (pos 0) (codes "AEST")

abbrev aedt : FixedTimespan
aedt = span (pos 36000) (pos 3600) (codes "AEDT")

abbrev zzz : FixedTimespan
zzz = span (pos 0) (pos 0) (codes "zzz")

sydney : collapsed zzz ((negsuc 2214259199, aest) ∷ (negsuc 1680508799, aedt) ∷ (negsuc 1669892399, aedt) ∷ (negsuc 1665392399, aest)
    ∷ (negsuc 1601719199, zzz) ∷ (negsuc 687052799, aest) ∷ (negsuc 94730399, aest) ∷ (negsuc 71135999, aedt) ∷ (negsuc 55411199, aest)
    ∷ (negsuc 37267199, aedt) ∷ (negsuc 25775999, aest) ∷ (negsuc 5817599, aedt) ∷ [])
    ≡ (negsuc 2214259199, aest) ∷ (negsuc 1680508799, aedt) ∷ (negsuc 1665392399, aest)
    ∷ (negsuc 1601719199, zzz) ∷ (negsuc 687052799, aest) ∷ (negsuc 71135999, aedt) ∷ (negsuc 55411199, aest)
    ∷ (negsuc 37267199, aedt) ∷ (negsuc 25775999, aest) ∷ (negsuc 5817599, aedt) ∷ []
unfolding collapsed kept_of kept_with without_first
sydney = refl

-- an entry that comes no later than the local end of the span before gives its span, at the time of that one, whatever span it is; a second
-- later it is kept
abbrev then : ℤ → FixedTimespan → List Entry
then time d = collapsed (span (pos 0) (pos 0) (codes "A"))
    ((pos 100000, span (pos 3600) (pos 0) (codes "B")) ∷ (pos 200000, span (pos 0) (pos 0) (codes "C")) ∷ (time, d) ∷ [])

gives : then (pos 201000) (span (pos 7200) (pos 0) (codes "D")) ∷ then (pos 201000) (span (pos 3600) (pos 0) (codes "B"))
    ∷ then (pos 203600) (span (pos 7200) (pos 0) (codes "D")) ∷ then (pos 203601) (span (pos 7200) (pos 0) (codes "D")) ∷ []
    ≡ ((pos 100000, span (pos 3600) (pos 0) (codes "B")) ∷ (pos 200000, span (pos 7200) (pos 0) (codes "D")) ∷ [])
    ∷ ((pos 100000, span (pos 3600) (pos 0) (codes "B")) ∷ (pos 200000, span (pos 3600) (pos 0) (codes "B")) ∷ [])
    ∷ ((pos 100000, span (pos 3600) (pos 0) (codes "B")) ∷ (pos 200000, span (pos 7200) (pos 0) (codes "D")) ∷ [])
    ∷ ((pos 100000, span (pos 3600) (pos 0) (codes "B")) ∷ (pos 200000, span (pos 0) (pos 0) (codes "C"))
    ∷ (pos 203601, span (pos 7200) (pos 0) (codes "D")) ∷ [])
    ∷ []
unfolding collapsed kept_of kept_with without_first
gives = refl

-- of two entries alike the first is kept, though no two are kept yet
alike : collapsed zzz ((pos 1, aest) ∷ (pos 100000, aest) ∷ (pos 200000, aedt) ∷ []) ≡ (pos 1, aest) ∷ (pos 200000, aedt) ∷ []
unfolding collapsed kept_of kept_with without_first
alike = refl

-- a name alone makes another span, and the first kept entry goes where it says what holds before it
names : collapsed zzz ((pos 1, zzz) ∷ (pos 2, span (pos 0) (pos 0) (codes "z")) ∷ (pos 3, zzz) ∷ (pos 4, zzz) ∷ [])
    ≡ (pos 2, span (pos 0) (pos 0) (codes "z")) ∷ (pos 3, zzz) ∷ []
unfolding collapsed kept_of kept_with without_first
names = refl

-- one entry at most goes where it says what holds before it, also where the next, which took another's time, says the same
leading : collapsed zzz ((pos 1, zzz) ∷ (pos 100000, span (negsuc 3599) (pos 0) (codes "B")) ∷ (pos 100500, zzz) ∷ []) ≡ (pos 100000, zzz) ∷ []
unfolding collapsed kept_of kept_with without_first
leading = refl

-- ---- totals

-- from the second of an entry on, and of two at one second the last; a nanosecond before it is in the span before
abbrev changes : Schedule
changes = totals_of (record {
  first = zzz;
  rest = (negsuc 0, span (pos 3600) (pos 0) []) ∷ (pos 10, span (pos 3600) (pos 3600) [])
      ∷ (pos 10, span (pos 0) (negsuc 3599) []) ∷ [];
})

totals : map (total_at changes) (negsuc 1000000000 ∷ negsuc 999999999 ∷ negsuc 0 ∷ pos 9999999999 ∷ pos 10000000000 ∷ [])
    ≡ pos 0 ∷ pos 3600 ∷ pos 3600 ∷ pos 3600 ∷ negsuc 3599 ∷ []
unfolding totals_of total_at
totals = refl

-- an offset of the same total is another span where the parts differ
parts : collapsed zzz ((pos 1, span (pos 3600) (pos 0) (codes "x")) ∷ (pos 100000, span (pos 0) (pos 3600) (codes "x")) ∷ [])
    ≡ (pos 1, span (pos 3600) (pos 0) (codes "x")) ∷ (pos 100000, span (pos 0) (pos 3600) (codes "x")) ∷ []
unfolding collapsed kept_of kept_with without_first
parts = refl

-- 2 * 93,599 + 1 offsets, one after the other down past 0
all_offsets : offset_count ≡ 187199
unfolding offset_count
all_offsets = refl

downwards : down_from (pos 1) 3 ≡ pos 1 ∷ pos 0 ∷ negsuc 0 ∷ []
downwards = refl

in_range : map is_in_offset_range (
    record { first = pos 93599; shifts = (pos 0, negsuc 93598) ∷ [] }
    ∷ record { first = pos 93600; shifts = [] }
    ∷ record { first = pos 0; shifts = (pos 0, pos 0) ∷ (pos 1, negsuc 93599) ∷ [] } ∷ []
    ) ≡ true ∷ false ∷ false ∷ []
in_range = refl

-- ---- bounds

-- 2^40, and one past it, on each side
small : map is_small (negsuc 1099511627776 ∷ negsuc 1099511627775 ∷ pos 1099511627776 ∷ pos 1099511627777 ∷ []) ≡ false ∷ true ∷ true ∷ false ∷ []
small = refl

-- each number of a set passes at 2^40, and fails alone one past it
abbrev far : ℤ
far = pos 1099511627776

abbrev too_far : ℤ
too_far = pos 1099511627777

bounded_sets : map is_bounded (
    record { first = span far far []; rest = (far, span far far []) ∷ [] }
    ∷ record { first = span too_far far []; rest = [] } ∷ record { first = span far too_far []; rest = [] }
    ∷ record { first = span far far []; rest = (far, span far far []) ∷ (too_far, span far far []) ∷ [] }
    ∷ record { first = span far far []; rest = (far, span too_far far []) ∷ [] }
    ∷ record { first = span far far []; rest = (far, span far too_far []) ∷ [] } ∷ []
    ) ≡ true ∷ false ∷ false ∷ false ∷ false ∷ false ∷ []
bounded_sets = refl
