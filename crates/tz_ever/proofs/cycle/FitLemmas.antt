-- Rules with small numbers, of which none leaves its year in the first 700, fit each year from 2100 on.
use Rattle.std.proofs.{Common.{◌≡◌, List, [], ◌∷◌, ℤ, pos, refl, Bool, ap, ◌∙◌, arith, ◌+ℤ◌, ◌≤ℤ◌, ◌+◌, ◌≤◌, true, false, filter, sym, ◌-◌, inl, inr, not, ◌&&◌, ◌||◌, int_le, int_lt, cond, neg_ℤ, unsigned_abs}, lemmas.Bool.{cases_Bool}}
use Rattle.std.specs.List.{list_all}
use Rattle.basics.specs.{ComparisonLaws.{le_from_pass}, Days.{day}, SignedLaws.{signed, natural}}
use Rattle.zone_table.specs.{LineBounds.{are_small_seconds}, Days.{named_day, is_in_year, has_day_of_month}, Bounds.{is_bounded_rule}, Moments.{applies_to_year}, declared.rule.RuleInfo.{RuleInfo}}
use Rattle.zone_spans.specs.{Faults.{is_outside, some_year}, Years.{earliest_year}, GoesOn.{some_leaves}, Settled.{are_settled, is_lasting, is_settled, lasting}}
use Rattle.tz_ever.proofs.cycle.{BoundLemmas.{AllFit, FitForEver, Fits}, FaultLemmas.{found_in_first, is_outside-repeats}, SettledLemmas.{and_first, and_second, applies-settled}}

abbrev pub are_bounded : List RuleInfo → Bool
are_bounded rules = list_all is_bounded_rule rules

pub or_first : (a b : Bool) → a || b ≡ false → a ≡ false
or_first true b h = h
or_first false b h = refl

pub or_second : (a b : Bool) → a || b ≡ false → b ≡ false
or_second true b h = absurd cc
or_second false b h = h

no_more : (a b : Bool) → a ≡ true → a && not b ≡ false → b ≡ true
no_more true true h k = refl
no_more true false h k = absurd cc
no_more false b h k = absurd cc

never_outside : (r : RuleInfo) (y : ℤ) → is_settled r ≡ true → some_year (is_outside r) 700 ≡ false → pos 2100 ≤ℤ y → is_outside r y ≡ false
never_outside r y settled none late =
    let i = unsigned_abs y - 1800 in
    let whole : y ≡ pos (unsigned_abs y) = natural y (omega (arith, signed)) in
    let place : y ≡ pos (earliest_year + i) = omega (arith, signed) in
    let far : 300 ≤ i = omega (arith, signed) in
    elim (cases_Bool (is_outside r y)) [
      | inl met ↦ absurd (let found = found_in_first (is_outside r) (λ z h. is_outside-repeats r z settled h) i i far (omega arith)
          (ap (is_outside r) (sym place) ∙ met) in cc)
      | inr not_met ↦ not_met
    ]

inside-year : (r : RuleInfo) (y : ℤ) → is_settled r ≡ true → is_lasting r ≡ true → is_outside r y ≡ false → pos 2100 ≤ℤ y
    → is_in_year (named_day r.day y r.month) y ≡ true
unfolding is_outside
inside-year r y settled lasting inside late =
    no_more (applies_to_year r y) (is_in_year (named_day r.day y r.month) y) (applies-settled r y settled late ∙ lasting) inside

begins : (k y : ℤ) → is_in_year k y ≡ true → day y 1 1 ≤ℤ k
unfolding is_in_year
begins k y h = le_from_pass (day y 1 1) k (and_first (int_le (day y 1 1) k) (int_lt k (day (y +ℤ pos 1) 1 1)) h)

pub least_of : (s : ℤ) → are_small_seconds s ≡ true → neg_ℤ (pos 1000000) ≤ℤ s
least_of s h = le_from_pass (neg_ℤ (pos 1000000)) s (and_first (int_le (neg_ℤ (pos 1000000)) s) (int_le s (pos 1000000)) h)

pub greatest_of : (s : ℤ) → are_small_seconds s ≡ true → s ≤ℤ pos 1000000
greatest_of s h = le_from_pass s (pos 1000000) (and_second (int_le (neg_ℤ (pos 1000000)) s) (int_le s (pos 1000000)) h)

fits-one : (r : RuleInfo) (y : ℤ) → is_settled r ≡ true → is_bounded_rule r ≡ true → some_year (is_outside r) 700 ≡ false
    → is_lasting r ≡ true → pos 2100 ≤ℤ y → Fits y r
fits-one r y settled bounded none lasting late =
    let d = has_day_of_month r.day in
    let t = are_small_seconds r.time in
    let s = are_small_seconds r.time_to_add in
    record {
      inside = begins (named_day r.day y r.month) y (inside-year r y settled lasting (never_outside r y settled none late) late);
      time = least_of r.time (and_second d t (and_first (d && t) s bounded));
      least = least_of r.time_to_add (and_second (d && t) s bounded);
      saving = greatest_of r.time_to_add (and_second (d && t) s bounded);
    }

pub fit-for_ever : (rules : List RuleInfo) → are_settled rules ≡ true → are_bounded rules ≡ true → some_leaves rules ≡ false → FitForEver rules
fit-for_ever [] settled bounded none y late = tt
fit-for_ever (r ∷ rs) settled bounded none y late =
    let others = fit-for_ever rs (and_second (is_settled r) (are_settled rs) settled) (and_second (is_bounded_rule r) (are_bounded rs) bounded)
    (or_second (some_year (is_outside r) 700) (some_leaves rs) none) y late in
    elim (is_lasting r) as (λ b. is_lasting r ≡ b → AllFit y (cond b (r ∷ filter is_lasting rs) (filter is_lasting rs))) [
      | true ↦ λ lasting. (
        fits-one r y (and_first (is_settled r) (are_settled rs) settled) (and_first (is_bounded_rule r) (are_bounded rs) bounded)
            (or_first (some_year (is_outside r) 700) (some_leaves rs) none) lasting late,
        others,
      )
      | false ↦ λ lasting. others
    ] refl
