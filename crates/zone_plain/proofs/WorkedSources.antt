-- Worked rows: the lines of a source with `%z` written out.
use Rattle.std.{proofs.Common.{◌≡◌, ℕ, suc, List, [], ◌∷◌, ◌++◌, map, pos, Option, Some, None, Ok, Err, true, cond, not, nat_lt, refl, ap, ◌∙◌}, specs.Prelude.{codes}, specs.Fmt.{digits}}
use Rattle.zone_table.specs.{Months.{month_name}, Seconds.{with_type}, Values.{SavingValue, no_saving, one_off, multiple, LineValue, space, zone, continuation, rule, link}, declared.day.DaySpec.TheVariants.{Ordinal}, declared.month.Month.TheVariants.{June}, declared.{time.TimeSpec.{TimeSpec}, time.TimeSpec.TheVariants.{Hours, HoursMinutes}, time.TimeType.TheVariants.{Wall}, year.Year.TheVariants.{Minimum}}}
use Rattle.zone_plain_lines.specs.declared.cause.PlainCause.TheVariants as cause
use Rattle.zone_plain_lines.specs.{PlainTexts.{plain_text, rule_text, years_text, year_text, to_text, moment_text, day_text, time_text}, LineFaults.{at, bad_line, too_long}, Marks.{ending_within}, Renamed.{mark_of}}
use Rattle.zone_plain.specs.{Formats.{around_mark}, Made.{is_changed_said, name_in, rules_named, made_for, made}, MadeNames.{made_name}, OffsetTexts.{offset_text}, Pairs.{Pair, asked, asked_by, joined_by, pairs_from, pairs_of}}
use Rattle.zone_plain.specs.WrittenOut.{made_size, refused_from, written_unless, written_out}

-- a rule by its ruleset, its saving and its letters
abbrev a_rule : List ℕ → TimeSpec → Option (List ℕ) → LineValue
a_rule name saving letters = rule (record {
  name = name;
  from_year = Minimum;
  to_year = None;
  month = June;
  day = Ordinal (pos 14);
  time = with_type (Hours (pos 0)) Wall;
  time_to_add = saving;
  letters = letters;
})

-- a line by its offset, RULES and FORMAT
abbrev a_line : TimeSpec → SavingValue → List ℕ → LineValue
a_line offset saving format = continuation (record { utc_offset = offset; saving = saving; format = format; time = None })

-- lines under rulesets, each by its offset, its ruleset and its FORMAT
abbrev ruled_lines : List (TimeSpec × List ℕ × List ℕ) → List LineValue
ruled_lines rows = map (λ row. a_line row.0 (multiple row.1) row.2) rows

-- a zone whose first line is under a ruleset, behind these rules
abbrev zone_of : List ℕ → List ℕ → List LineValue → List LineValue
zone_of name format lines =
    a_rule (codes "d") (Hours (pos 1)) (Some (codes "S")) ∷ a_rule (codes "_e") (Hours (pos 0)) None ∷ a_rule (codes "d") (Hours (pos 0)) None
    ∷ zone (codes "A") (record { utc_offset = Hours (pos 2); saving = multiple name; format = format; time = None }) ∷ lines

-- its lines without a ruleset, and a link
abbrev last_lines : List ℕ → List ℕ → List LineValue
last_lines without with =
    a_line (Hours (pos 5)) no_saving without ∷ a_line (Hours (pos 5)) (one_off (HoursMinutes (pos 0) (pos 30))) with ∷ link (codes "A") (codes "B") ∷ []

-- two offsets under one ruleset, the first of them twice; another ruleset at that offset; amounts, letters and a link
abbrev source : List LineValue
source = zone_of (codes "d") (codes "%z") (ruled_lines ((HoursMinutes (pos 5) (pos 30), codes "d", codes "A%zB") ∷ (Hours (pos 2), codes "d", codes "C%z")
    ∷ (Hours (pos 2), codes "_e", codes "%z") ∷ (Hours (pos 2), codes "d", codes "C%sT") ∷ []) ++ last_lines (codes "%z") (codes "%z"))

-- a rule that is made stands behind them
written_lines : written_unless source None
    ≡ Ok (zone_of (codes "__a") (codes "%s") (ruled_lines ((HoursMinutes (pos 5) (pos 30), codes "__b", codes "A%sB") ∷ (Hours (pos 2), codes "__a", codes "C%s")
    ∷ (Hours (pos 2), codes "__c", codes "%s") ∷ (Hours (pos 2), codes "d", codes "C%sT") ∷ []) ++ last_lines (codes "+05") (codes "+0530") ++ (
    a_rule (codes "__a") (Hours (pos 1)) (Some (codes "+03"))
    ∷ a_rule (codes "__a") (Hours (pos 0)) (Some (codes "+02"))
    ∷ a_rule (codes "__b") (Hours (pos 1)) (Some (codes "+0630"))
    ∷ a_rule (codes "__b") (Hours (pos 0)) (Some (codes "+0530"))
    ∷ a_rule (codes "__c") (Hours (pos 0)) (Some (codes "+02"))
    ∷ []
    )))
unfolding asked_by around_mark pairs_from made rules_named mark_of ending_within made_name digits offset_text
written_lines = refl

-- a total of 100 hours, of a line or of a rule that it asks for, is told of that line
too_far : written_out (space ∷ a_line (Hours (pos 99)) (one_off (Hours (pos 1))) (codes "%z") ∷ []) ≡ Err (bad_line (at 2 cause.Unsayable))
unfolding written_out refused_from asked_by around_mark
too_far = refl

abbrev too_far_under : List LineValue
too_far_under = a_rule (codes "d") (Hours (pos 1)) None ∷ a_line (Hours (pos 99)) (multiple (codes "d")) (codes "%z") ∷ []

rule_too_far : written_out too_far_under ≡ Err (bad_line (at 2 cause.Unsayable))
unfolding written_out refused_from asked_by around_mark rules_named
rule_too_far = refl

-- what is told of a line comes before the length of what it asks for
line_before_length : refused_from 0 too_far_under 1 [] too_far_under ≡ Some (bad_line (at 2 cause.Unsayable))
unfolding refused_from asked_by around_mark rules_named
line_before_length = refl

-- a ruleset for the first offset takes 34 bytes, and so does one for the second
abbrev ruled : TimeSpec → LineValue
ruled offset = a_line offset (multiple (codes "d")) (codes "%z")

abbrev first : LineValue
first = ruled (Hours (pos 2))

abbrev second : LineValue
second = ruled (Hours (pos 3))

abbrev under_one : List LineValue → List LineValue
under_one lines = a_rule (codes "d") (Hours (pos 1)) None ∷ lines

abbrev two : List LineValue
two = under_one (first ∷ second ∷ [])

made_texts : map plain_text (made_for two (pairs_of two))
    ≡ codes "Rule _a min only - Jun 14 0 1 +03" ∷ codes "Rule _b min only - Jun 14 0 1 +04" ∷ []
unfolding asked_by around_mark pairs_from rules_named mark_of ending_within made_name offset_text plain_text rule_text years_text year_text to_text moment_text day_text time_text digits month_name
made_texts = refl

two_sizes : made_size two (pairs_of two) ≡ 68
unfolding asked_by around_mark pairs_from rules_named mark_of ending_within made_name offset_text plain_text rule_text years_text year_text to_text moment_text day_text time_text digits month_name
two_sizes = refl

-- where the line can be said, its length decides
by_length : (limit : ℕ) (all : List LineValue) (n : ℕ) (pairs : List Pair) (v : LineValue) (values : List LineValue)
    → is_changed_said all (name_in all) (asked v) v ≡ true
    → refused_from limit all n pairs (v ∷ values)
    ≡ cond (nat_lt limit (made_size all (joined_by (asked v) pairs))) (Some too_long) (refused_from limit all (suc n) (joined_by (asked v) pairs) values)
unfolding refused_from
by_length limit all n pairs v values said =
    ap (λ b. cond (not b) (Some (bad_line (at n cause.Unsayable)))
    (cond (nat_lt limit (made_size all (joined_by (asked v) pairs))) (Some too_long) (refused_from limit all (suc n) (joined_by (asked v) pairs) values))) said

-- the same pair again is counted once
abbrev again : List LineValue
again = under_one (first ∷ first ∷ [])

again_at_limit : is_changed_said again (name_in again) (asked first) first ≡ true → refused_from 34 again 1 [] again ≡ None
unfolding refused_from asked_by around_mark pairs_from rules_named mark_of ending_within made_name offset_text plain_text rule_text years_text year_text to_text moment_text day_text time_text digits month_name
again_at_limit said =
    by_length 34 again 2 [] first (first ∷ []) said ∙ by_length 34 again 3 (joined_by (asked first) []) first [] said

again_past : is_changed_said again (name_in again) (asked first) first ≡ true → refused_from 33 again 1 [] again ≡ Some too_long
unfolding refused_from asked_by around_mark pairs_from rules_named mark_of ending_within made_name offset_text plain_text rule_text years_text year_text to_text moment_text day_text time_text digits month_name
again_past said = by_length 33 again 2 [] first (first ∷ []) said

-- and another one with it
two_at_limit : is_changed_said two (name_in two) (asked first) first ≡ true → is_changed_said two (name_in two) (asked second) second ≡ true
    → refused_from 68 two 1 [] two ≡ None
unfolding refused_from asked_by around_mark pairs_from rules_named mark_of ending_within made_name offset_text plain_text rule_text years_text year_text to_text moment_text day_text time_text digits month_name
two_at_limit said then_said =
    by_length 68 two 2 [] first (second ∷ []) said ∙ by_length 68 two 3 (joined_by (asked first) []) second [] then_said

two_past : is_changed_said two (name_in two) (asked first) first ≡ true → is_changed_said two (name_in two) (asked second) second ≡ true
    → refused_from 67 two 1 [] two ≡ Some too_long
unfolding refused_from asked_by around_mark pairs_from rules_named mark_of ending_within made_name offset_text plain_text rule_text years_text year_text to_text moment_text day_text time_text digits month_name
two_past said then_said =
    by_length 67 two 2 [] first (second ∷ []) said ∙ by_length 67 two 3 (joined_by (asked first) []) second [] then_said

-- a line with which the rulesets are too long is told before a later one that can't be said
abbrev then_far : List LineValue
then_far = under_one (first ∷ a_line (Hours (pos 99)) (one_off (Hours (pos 1))) (codes "%z") ∷ [])

length_before_later : is_changed_said then_far (name_in then_far) (asked first) first ≡ true → refused_from 33 then_far 1 [] then_far ≡ Some too_long
unfolding refused_from asked_by around_mark pairs_from rules_named mark_of ending_within made_name offset_text plain_text rule_text years_text year_text to_text moment_text day_text time_text digits month_name
length_before_later said = by_length 33 then_far 2 [] first (a_line (Hours (pos 99)) (one_off (Hours (pos 1))) (codes "%z") ∷ []) said

later_at_limit : is_changed_said then_far (name_in then_far) (asked first) first ≡ true
    → refused_from 34 then_far 1 [] then_far ≡ Some (bad_line (at 3 cause.Unsayable))
unfolding refused_from asked_by around_mark pairs_from rules_named mark_of ending_within made_name offset_text plain_text rule_text years_text year_text to_text moment_text day_text time_text digits month_name
later_at_limit said = by_length 34 then_far 2 [] first (a_line (Hours (pos 99)) (one_off (Hours (pos 1))) (codes "%z") ∷ []) said
