-- Rules of which none begins or ends after 2099.
use Rattle.std.proofs.{Common.{◌≡◌, List, [], ◌∷◌, ℤ, pos, refl, Bool, ap, ◌∙◌, arith, ◌≤ℤ◌, true, false, filter, ◌&&◌}, lemmas.Int.{ints}}
use Rattle.zone_table.specs.{declared.year.Year.{Year, TheVariants.{Maximum, Number, Minimum}}, Moments.{applies_to_year, last_year, is_at_most, is_at_least}, declared.rule.RuleInfo.{RuleInfo}}
use Rattle.zone_spans.specs.Settled.{are_settled, is_lasting, is_max, is_settled, is_settled_end}

pub and_first : (a b : Bool) → a && b ≡ true → a ≡ true
and_first true b h = refl
and_first false b h = h

pub and_second : (a b : Bool) → a && b ≡ true → b ≡ true
and_second true b h = h
and_second false b h = absurd cc

begun : (from : Year) (y : ℤ) → is_at_most from (pos 2099) ≡ true → pos 2100 ≤ℤ y → is_at_most from y ≡ true
begun Minimum y h late = refl
begun Maximum y h late = h
begun (Number n) y h late = grind (arith, ints)

ended : (last : Year) (y : ℤ) → is_settled_end last ≡ true → pos 2100 ≤ℤ y → is_at_least last y ≡ is_max last
ended Minimum y h late = refl
ended Maximum y h late = refl
ended (Number n) y h late = grind (arith, ints)

-- from 2100 on a settled rule applies to each year or to none
pub applies-settled : (rule : RuleInfo) (y : ℤ) → is_settled rule ≡ true → pos 2100 ≤ℤ y → applies_to_year rule y ≡ is_lasting rule
unfolding applies_to_year is_settled is_lasting
applies-settled rule y settled late =
    ap (λ b. b && is_at_least (last_year rule) y) (begun rule.from_year y (and_first (is_at_most rule.from_year (pos 2099)) (is_settled_end (last_year rule)) settled) late)
    ∙ ended (last_year rule) y (and_second (is_at_most rule.from_year (pos 2099)) (is_settled_end (last_year rule)) settled) late

-- rules that ended have no part in years from 2100 on
pub applying-settled : (rules : List RuleInfo) (y : ℤ) → are_settled rules ≡ true → pos 2100 ≤ℤ y
    → filter (λ r. applies_to_year r y) rules ≡ filter is_lasting rules
applying-settled [] y settled late = refl
applying-settled (r ∷ rs) y settled late =
    let here = applies-settled r y (and_first (is_settled r) (are_settled rs) settled) late in
    let others = applying-settled rs y (and_second (is_settled r) (are_settled rs) settled) late in
    rw (here, others)
