-- What was tested of more years is known of fewer, and nothing is to be tested of no years.
use Rattle.std.proofs.{Common.{◌≡◌, ℕ, zero, suc, ◌+◌, ◌≤◌, inl, inr, Bool, false, ◌||◌, List, [], ◌∷◌, ℤ, pos, refl, ap, ◌∙◌, arith}, Math.Nat.{eq-or-lt_of_le}}
use Rattle.zone_table.specs.declared.rule.RuleInfo.{RuleInfo}
use Rattle.zone_spans.{specs.Faults.{is_outside, some_year}, specs.Bounds.{IsSound}, specs.Lines.{Line}, specs.Tested.{NoneLeaves}, proofs.SoundLemmas.{neither_left, neither_right, no_years}, specs.Years.{earliest_year}}

-- what holds in none of the years holds in none of the first of them
fewer_years : (test : ℤ → Bool) (k n : ℕ) → k ≤ n → some_year test n ≡ false → some_year test k ≡ false
unfolding some_year
fewer_years test k zero le none = let no_more : k ≡ zero = omega (arith, le) in ap (some_year test) no_more
fewer_years test k (suc n) le none =
    elim (eq-or-lt_of_le {n = k} {m = suc n} le) [
      | inl same ↦ ap (some_year test) same ∙ none
      | inr less ↦ fewer_years test k n (omega (arith, less)) (neither_left (some_year test n) (test (pos (earliest_year + n))) none)
    ]

pub fewer_leave : (rules : List RuleInfo) (k n : ℕ) → k ≤ n → NoneLeaves rules n → NoneLeaves rules k
fewer_leave [] k n le none = refl
fewer_leave (r ∷ rs) k n le none =
    let here = fewer_years (is_outside r) k n le (neither_left (some_year (is_outside r) n) _ none) in
    let behind = fewer_leave rs k n le (neither_right (some_year (is_outside r) n) _ none) in
    λ i. here i || behind i

-- so is a line that is sound over more years sound over fewer
pub fewer_sound : (line : Line) (k n : ℕ) → k ≤ n → IsSound n line → IsSound k line
fewer_sound line k n le sound = record {
  bounded = sound.bounded;
  year = sound.year;
  years = sound.years;
  end = sound.end;
  days = fewer_leave line.rules k n le sound.days;
}

pub none_leaves_yet : (rules : List RuleInfo) → NoneLeaves rules 0
none_leaves_yet [] = refl
none_leaves_yet (r ∷ rs) = λ i. no_years (is_outside r) i || none_leaves_yet rs i
