-- Which seconds of a list may be asked.
use Rattle.std.{proofs.Common.{◌≡◌, ℕ, zero, suc, ◌<◌, true, false, cond, List, [], ◌∷◌, length, get_or, ℤ, pos, refl, sym, subst, ap, ◌∙◌, inl, inr, arith}, specs.Prelude.{Option, Some, None, option_map}, proofs.lemmas.Bool.{cases_Bool}}
use Rattle.civil_base.specs.{Instants.{nanos_of}, Ranges.{is_in_years}}
use Rattle.sefunjaro.specs.Offsets.{AreInYears}
use Rattle.sefunjaro_c.specs.Lists.{far_place, OfPlace}

-- the first outside the years
pub found : (seconds : List ℤ) (i : ℕ) → i < length seconds → ((j : ℕ) (d : ℤ) → j < i → is_in_years (nanos_of (get_or seconds j d)) ≡ true)
    → ((d : ℤ) → is_in_years (nanos_of (get_or seconds i d)) ≡ false) → far_place seconds ≡ Some i
unfolding far_place
found [] i l before far = absurd (omega (arith, l))
found (s ∷ ss) zero l before far = ap (λ b. cond b (option_map suc (far_place ss)) (Some 0)) (far (pos 0))
found (s ∷ ss) (suc i) l before far =
    ap (λ b. cond b (option_map suc (far_place ss)) (Some 0)) (before 0 (pos 0) (omega arith))
    ∙ ap (option_map suc) (found ss i (omega (arith, l)) (λ j d m. before (suc j) d (omega arith)) far)

pub none_far : (seconds : List ℤ) → ((j : ℕ) (d : ℤ) → j < length seconds → is_in_years (nanos_of (get_or seconds j d)) ≡ true) → far_place seconds ≡ None
unfolding far_place
none_far [] near = refl
none_far (s ∷ ss) near =
    ap (λ b. cond b (option_map suc (far_place ss)) (Some 0)) (near 0 (pos 0) (omega arith))
    ∙ ap (option_map suc) (none_far ss (λ j d m. near (suc j) d (omega arith)))

no_more : (o : Option ℕ) → option_map suc o ≡ None → o ≡ None
no_more None e = refl
no_more (Some n) e = absurd (cc)

-- one more in front
more : (s : ℤ) (ss : List ℤ) → is_in_years (nanos_of s) ≡ true → AreInYears ss → AreInYears (s ∷ ss)
more s ss inside rest zero d l = inside
more s ss inside rest (suc k) d l = rest k d (omega (arith, l))

-- where there is none all are within them
pub all_in_years : (seconds : List ℤ) → far_place seconds ≡ None → AreInYears seconds
unfolding far_place
all_in_years [] e = λ k d l. absurd (omega (arith, l))
all_in_years (s ∷ ss) e = elim (cases_Bool (is_in_years (nanos_of s))) [
  | inl inside ↦ more s ss inside
      (all_in_years ss (no_more (far_place ss) (sym (ap (λ b. cond b (option_map suc (far_place ss)) (Some 0)) inside) ∙ e)))
  | inr far ↦ absurd (let f = sym (ap (λ b. cond b (option_map suc (far_place ss)) (Some 0)) far) ∙ e in cc)
]

-- where no place is told they are answered for, and else it is
pub no_place : (found : Option ℕ) (place : ℕ) (kept P : Type 0) → found ≡ None → P → OfPlace found 0 place place kept P
no_place found place kept P e h = subst (λ o. OfPlace o 0 place place kept P) (sym e) (refl, (refl, h))

pub one_place : (found : Option ℕ) (old new : ℕ) (kept P : Type 0) → found ≡ Some new → kept → OfPlace found 10 old new kept P
one_place found old new kept P e h = subst (λ o. OfPlace o 10 old new kept P) (sym e) (refl, (refl, h))
