-- Lines that are found to mean the same are one value.
use Rattle.std.proofs.{Common.{◌≡◌, Bool, true, Option, Some, None, refl, ap, bytes_eq}, lemmas.Bool.{and_parts}, lemmas.Slice.Eq.{bytes_eq-Decides}}
use Rattle.zone_table.specs.{LogicLaws.{no_case}, SameLaws.{time_is, marked_time_is, year_is, month_is, day_is, end_is}, Values.{SavingValue, no_saving, one_off, multiple, InfoValue, RuleValue, LineValue, space, zone, continuation, rule, link}}
use Rattle.zone_table.specs.contracts.change.ChangeTimePartialEq.TheImpl as of_end
use Rattle.zone_table.specs.contracts.year.YearPartialEq.TheImpl as of_year
use Rattle.zone_plain_lines.specs.Same.{same_option, same_saving, same_info, same_rule, same_line}

option_is : {A : Type 0} (same : A → A → Bool) → ((a b : A) → same a b ≡ true → a ≡ b) → (a b : Option A) → same_option same a b ≡ true → a ≡ b
option_is same is None None h = refl
option_is same is (Some a) (Some b) h = ap Some (is a b h)
option_is same is _ _ h = no_case h

saving_is : (a b : SavingValue) → same_saving a b ≡ true → a ≡ b
saving_is no_saving no_saving h = refl
saving_is (one_off a) (one_off b) h = ap one_off (time_is a b h)
saving_is (multiple a) (multiple b) h = ap multiple ((bytes_eq-Decides a b).0 h)
saving_is _ _ h = no_case h

info_is : (a b : InfoValue) → same_info a b ≡ true → a ≡ b
info_is a b h =
    let offset = and_parts _ _ h in
    let saving = and_parts (same_saving a.saving b.saving) _ offset.1 in
    let format = and_parts (bytes_eq a.format b.format) _ saving.1 in
    λ i. record {
      utc_offset = time_is a.utc_offset b.utc_offset offset.0 i;
      saving = saving_is a.saving b.saving saving.0 i;
      format = (bytes_eq-Decides a.format b.format).0 format.0 i;
      time = option_is of_end.ghosts.eq end_is a.time b.time format.1 i;
    }

rule_is : (a b : RuleValue) → same_rule a b ≡ true → a ≡ b
rule_is a b h =
    let name = and_parts (bytes_eq a.name b.name) _ h in
    let from = and_parts _ _ name.1 in
    let to = and_parts _ _ from.1 in
    let month = and_parts _ _ to.1 in
    let day = and_parts _ _ month.1 in
    let time = and_parts _ _ day.1 in
    let save = and_parts _ _ time.1 in
    λ i. record {
      name = (bytes_eq-Decides a.name b.name).0 name.0 i;
      from_year = year_is a.from_year b.from_year from.0 i;
      to_year = option_is of_year.ghosts.eq year_is a.to_year b.to_year to.0 i;
      month = month_is a.month b.month month.0 i;
      day = day_is a.day b.day day.0 i;
      time = marked_time_is a.time b.time time.0 i;
      time_to_add = time_is a.time_to_add b.time_to_add save.0 i;
      letters = option_is bytes_eq (λ a b. (bytes_eq-Decides a b).0) a.letters b.letters save.1 i;
    }

-- lines that are found to mean the same are one value
pub line_is : (a b : LineValue) → same_line a b ≡ true → a ≡ b
unfolding same_line
line_is space space h = refl
line_is (zone a i) (zone b j) h =
    let both = and_parts (bytes_eq a b) _ h in
    λ k. zone ((bytes_eq-Decides a b).0 both.0 k) (info_is i j both.1 k)
line_is (continuation i) (continuation j) h = ap continuation (info_is i j h)
line_is (rule a) (rule b) h = ap rule (rule_is a b h)
line_is (link a b) (link c d) h =
    let both = and_parts (bytes_eq a c) _ h in
    λ k. link ((bytes_eq-Decides a c).0 both.0 k) ((bytes_eq-Decides b d).0 both.1 k)
line_is _ _ h = no_case h
