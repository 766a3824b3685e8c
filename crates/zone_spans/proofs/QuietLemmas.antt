-- Nothing fires before the first year of a ruleset.
use Rattle.std.proofs.{Common.{◌≡◌, ℕ, zero, suc, ◌+◌, ◌<◌, Bool, true, false, not, ◌&&◌, ◌||◌, cond, List, [], ◌∷◌, ◌++◌, length, get_or, take, filter, Option, ℤ, pos, ◌<ℤ◌, refl, sym, ap, ◌∙◌, arith}, lemmas.List.{take_more}}
use Rattle.std.proofs.lemmas.List.Folds.{list_any-append}
use Rattle.std.specs.List.{list_any}
use Rattle.basics.specs.ComparisonLaws.{le_fail}
use Rattle.zone_table.specs.{Days.{is_in_year, named_day}, declared.change.ChangeTime.{ChangeTime}, declared.year.Year.TheVariants.{Number}, Moments.{applies_to_year, is_at_least, is_at_most, last_year}, declared.rule.RuleInfo.{RuleInfo}}
use Rattle.zone_spans.{specs.Faults.{is_outside, some_year}, specs.Firings.{fired, firings_of_years, year_firings}, specs.Quiet.{AppliesToNone}, proofs.SoundLemmas.{neither_left}, specs.Years.{earliest_year}}

-- a rule does not apply before its first year
pub too_early : (rule : RuleInfo) (first year : ℤ) → rule.from_year ≡ Number first → year <ℤ first
    → (applies_to_year rule year || false) ≡ false
unfolding applies_to_year
too_early rule first year is before =
    ap (λ y. (is_at_most y year && is_at_least (last_year rule) year) || false) is
    ∙ ap (λ b. (b && is_at_least (last_year rule) year) || false) (le_fail first year before)

-- one rule more
pub one_rule_more : (rules : List RuleInfo) (k : ℕ) (rule : RuleInfo) (n m : ℕ) → k < length rules → rule ≡ get_or rules k rule
    → AppliesToNone (take k rules) n → AppliesToNone (rule ∷ []) m → ((i : ℕ) → i < m → i < n) → AppliesToNone (take (k + 1) rules) m
one_rule_more rules k rule n m l is before here less i below =
    let test : RuleInfo → Bool = λ r. applies_to_year r (pos (earliest_year + i)) in
    ap (list_any test) (take_more rules k rule l ∙ ap (λ x. take k rules ++ x ∷ []) (sym is))
    ∙ list_any-append test (take k rules) (rule ∷ [])
    ∙ (λ t. before i (less i below) t || here i below t)

none_apply : (year : ℤ) (rules : List RuleInfo) → list_any (λ r. applies_to_year r year) rules ≡ false
    → filter (λ r. applies_to_year r year) rules ≡ []
none_apply year [] none = refl
none_apply year (r ∷ rs) none =
    let others = filter (λ r. applies_to_year r year) rs in
    elim (applies_to_year r year) as (λ b. (b || list_any (λ r. applies_to_year r year) rs) ≡ false → cond b (r ∷ others) others ≡ []) [
      | true ↦ λ h. cc
      | false ↦ λ h. none_apply year rs h
    ] none

quiet_year : (year offset : ℤ) (end : Option ChangeTime) (saving : ℤ) (rules : List RuleInfo)
    → list_any (λ r. applies_to_year r year) rules ≡ false → year_firings year offset end saving rules ≡ ([], saving)
unfolding year_firings fired
quiet_year year offset end saving rules none = ap (λ rs. fired (length rs) year offset end saving rs) (none_apply year rules none)

pub quiet_years : (offset : ℤ) (end : Option ChangeTime) (rules : List RuleInfo) (n : ℕ) → AppliesToNone rules n
    → firings_of_years offset end rules n ≡ ([], pos 0)
unfolding firings_of_years
quiet_years offset end rules zero none = refl
quiet_years offset end rules (suc n) none =
    let before = quiet_years offset end rules n (λ i l. none i (omega (arith, l))) in
    let year = pos (earliest_year + n) in
    (λ k. ((before k).0 ++ (year_firings year offset end (before k).1 rules).0, (year_firings year offset end (before k).1 rules).1))
    ∙ quiet_year year offset end (pos 0) rules (none n (omega arith))

-- and no day of the rule lies outside those years
pub quiet_days : (rule : RuleInfo) (n : ℕ) → AppliesToNone (rule ∷ []) n → some_year (is_outside rule) n ≡ false
unfolding some_year is_outside
quiet_days rule zero none = refl
quiet_days rule (suc n) none =
    let before = quiet_days rule n (λ i l. none i (omega (arith, l))) in
    let here = neither_left (applies_to_year rule (pos (earliest_year + n))) false (none n (omega arith)) in
    let year = pos (earliest_year + n) in
    let outside = not (is_in_year (named_day rule.day year rule.month) year) in
    λ k. before k || (here k && outside)
