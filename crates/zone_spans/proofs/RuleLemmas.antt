-- Rulesets that are found to be the same.
use Rattle.std.proofs.{Common.{◌≡◌, ℕ, List, [], ◌∷◌, true, Option, Some, None, refl, ap, rules}, lemmas.Bool.{and_parts}, lemmas.Slice.Eq.{bytes_eq-Decides}}
use lib.Pointwise.{pointwise}
use Rattle.basics.specs.{LogicLaws.{no_case}, ComparisonLaws.{eq_from_pass}}
use Rattle.basics.specs.contracts.map.Text as text_type
use Rattle.basics.specs.contracts.map.TextPartialEq.TheImpl as of_text
use Rattle.zone_table.specs.{SameLaws.{clock_is, year_is, month_is, day_is}, declared.year.Year.{Year}, declared.rule.RuleInfo.{RuleInfo}}
use Rattle.zone_table.specs.contracts.year.Year as year_type
use Rattle.zone_table.specs.contracts.day.DaySpecPartialEq.TheImpl as of_day
use Rattle.zone_table.specs.contracts.month.MonthPartialEq.TheImpl as of_month
use Rattle.zone_table.specs.contracts.time.TimeTypePartialEq.TheImpl as of_clock
use Rattle.zone_table.specs.contracts.year.YearPartialEq.TheImpl as of_year
use Rattle.std.specs.contracts.prelude.OptionPartialEq.TheImpl as of_option
use Rattle.zone_table.specs.contracts.rule.RuleInfoPartialEq.TheImpl as of_rule

last_is : (a b : Option Year) → (of_option.ghosts year_type.the_row of_year.ghosts of_year.dict).eq a b ≡ true → a ≡ b
last_is None None h = refl
last_is (Some a) (Some b) h = ap Some (year_is a b h)
last_is None (Some b) h = no_case h
last_is (Some a) None h = no_case h

letters_is : (a b : Option (List ℕ)) → (of_option.ghosts text_type.the_row of_text.ghosts of_text.dict).eq a b ≡ true → a ≡ b
letters_is None None h = refl
letters_is (Some a) (Some b) h = ap Some ((bytes_eq-Decides a b).0 h)
letters_is None (Some b) h = no_case h
letters_is (Some a) None h = no_case h

-- rules that are found equal are one
pub rule_is : (a b : RuleInfo) → of_rule.ghosts.eq a b ≡ true → a ≡ b
rule_is a b h =
    let from = and_parts (of_year.ghosts.eq a.from_year b.from_year) _ h in
    let to = and_parts _ _ from.1 in
    let month = and_parts (of_month.ghosts.eq a.month b.month) _ to.1 in
    let day = and_parts (of_day.ghosts.eq a.day b.day) _ month.1 in
    let time = and_parts _ _ day.1 in
    let clock = and_parts (of_clock.ghosts.eq a.time_type b.time_type) _ time.1 in
    let saving = and_parts _ _ clock.1 in
    λ i. record {
      from_year = year_is a.from_year b.from_year from.0 i;
      to_year = last_is a.to_year b.to_year to.0 i;
      month = month_is a.month b.month month.0 i;
      day = day_is a.day b.day day.0 i;
      time = eq_from_pass a.time b.time time.0 i;
      time_type = clock_is a.time_type b.time_type clock.0 i;
      time_to_add = eq_from_pass a.time_to_add b.time_to_add saving.0 i;
      letters = letters_is a.letters b.letters saving.1 i;
    }

pub rules_are : (ours theirs : List RuleInfo) → pointwise of_rule.ghosts.eq ours theirs ≡ true → ours ≡ theirs
rules_are [] [] h = refl
rules_are [] (r ∷ rs) h = search rules
rules_are (r ∷ rs) [] h = search rules
rules_are (r ∷ rs) (q ∷ qs) h = let both = and_parts (of_rule.ghosts.eq r q) _ h in λ i. rule_is r q both.0 i ∷ rules_are rs qs both.1 i
