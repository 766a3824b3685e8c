-- Which words ask what, which cause comes first, and the lines of causes, at worked rows.
use Rattle.std.{proofs.Common.{◌≡◌, ℕ, List, [], ◌∷◌, map, Option, Some, None, option_map, Ok, Err, refl, ℤ, pos, negsuc}, specs.Prelude.{codes}, specs.Fmt.{digits}}
use Rattle.zone_source.specs.Faults.{not_text}
use Rattle.zone_spans.specs.{Schedules.{totals_of}, declared.fault.SpanFault.TheVariants.{UnknownRuleset, MissingUntil, YearRange, RuleYears, DayRange, NoStandardSpan}}
use Rattle.zone_run.specs.{Asked.{Asked}, Causes.{of_source, of_zone, of_program, zone_cause}, Due.{answer, cause_line}, Numbers.{number_in}, Readings.{Found, Spans, bad_schedule, found_under, given_of, offset_range, rules_end, unknown_zone}}
use Rattle.zone_run.specs.Tasks.{Task, task_at, task_in}

-- programs without words of their own: one refuses each zone, the other answers its name
abbrev refuses : Asked
refuses = record { cause = λ set. Some (codes "own"); due = λ set. [] }

abbrev names : Asked
names = record { cause = λ set. None; due = λ set. set.name }

abbrev form : List (List ℕ) → Option Asked
form [] = Some names
form (word ∷ words) = None

abbrev parts : Task → List (List ℕ)
parts task = task.file ∷ task.zone ∷ []

-- FILE and NAME, in this order, and the program's own words after them
which_words : map (λ words. option_map parts (task_in form words))
    ([] ∷ (codes "f" ∷ []) ∷ (codes "f" ∷ codes "A" ∷ []) ∷ (codes "f" ∷ codes "A" ∷ codes "1" ∷ []) ∷ [])
    ≡ None ∷ None ∷ Some (codes "f" ∷ codes "A" ∷ []) ∷ None ∷ []
which_words = refl

-- what is found of spans of one offset
abbrev fixed_at : ℤ → Found Spans
fixed_at offset = given_of (λ set. set) (Ok (record { first = record { utc_offset = offset; dst_offset = pos 0; name = codes "T" }; rest = [] }))

-- nothing found, no schedule, 26 hours and a second less to each side, and rules that end: all before the program's own cause
zone_first : map (zone_cause (task_at (codes "f") (codes "A") refuses))
    (found_under (λ _ _. fixed_at (pos 0)) (λ _. None) None ∷ given_of (λ set. set) (Err YearRange) ∷ fixed_at (pos 93600)
    ∷ fixed_at (negsuc 93599) ∷ fixed_at (pos 93599) ∷ fixed_at (negsuc 93598) ∷ Err rules_end ∷ [])
    ≡ Some (of_zone unknown_zone) ∷ Some (of_zone (bad_schedule YearRange)) ∷ Some (of_zone offset_range) ∷ Some (of_zone offset_range)
    ∷ Some (of_program (codes "own")) ∷ Some (of_program (codes "own")) ∷ Some (of_zone rules_end) ∷ []
unfolding totals_of
zone_first = refl

-- the answer is that for the spans under the asked name
named_so : answer (task_at (codes "f") (codes "A") names) (fixed_at (pos 0)) ≡ codes "A"
unfolding totals_of
named_so = refl

lines_of_causes : map (cause_line (codes "list"))
    (of_source (not_text 3) ∷ of_zone unknown_zone ∷ of_zone (bad_schedule UnknownRuleset) ∷ of_zone (bad_schedule MissingUntil)
    ∷ of_zone (bad_schedule YearRange) ∷ of_zone (bad_schedule RuleYears) ∷ of_zone (bad_schedule DayRange)
    ∷ of_zone (bad_schedule NoStandardSpan) ∷ of_zone offset_range ∷ of_zone rules_end ∷ of_program (codes "range") ∷ [])
    ≡ codes "source 3: not text" ∷ codes "list: unknown zone" ∷ codes "list: schedule UnknownRuleset"
    ∷ codes "list: schedule MissingUntil" ∷ codes "list: schedule YearRange" ∷ codes "list: schedule RuleYears"
    ∷ codes "list: schedule DayRange" ∷ codes "list: schedule NoStandardSpan" ∷ codes "list: offset range" ∷ codes "list: rules end"
    ∷ codes "list: range" ∷ []
unfolding digits
lines_of_causes = refl

-- one spelling a number: no plus, no leading zero, no `-0`, nothing around it; and the sizes at the bound
which_numbers : map (number_in 9999)
    (codes "0" ∷ codes "7" ∷ codes "-7" ∷ codes "9999" ∷ codes "-9999" ∷ codes "10000" ∷ codes "-10000" ∷ codes "-0" ∷ codes "00"
    ∷ codes "07" ∷ codes "-07" ∷ codes "+7" ∷ codes "" ∷ codes "-" ∷ codes "7 " ∷ codes " 7" ∷ codes "7a" ∷ codes "--7" ∷ [])
    ≡ Some (pos 0) ∷ Some (pos 7) ∷ Some (negsuc 6) ∷ Some (pos 9999) ∷ Some (negsuc 9998) ∷ None ∷ None ∷ None ∷ None
    ∷ None ∷ None ∷ None ∷ None ∷ None ∷ None ∷ None ∷ None ∷ None ∷ []
unfolding digits
which_numbers = refl
