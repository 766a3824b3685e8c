-- Texts with bars, written one after another; the local time of each instant that is read as one.
use Rattle.std.{proofs.Common.{◌≡◌, ℕ, ℤ, List, [], ◌∷◌, map, filter, Bool, true, false, cond, refl, arith}, proofs.lemmas.Bool.Decides.{Decides-int_eq}, proofs.lemmas.Int.{ints}, specs.Ordering.{int_eq}}
use Rattle.civil_base.specs.Instants.{instant_at, local_at}
use Rattle.tz_lookup.specs.InForce.{all_in_force, in_force}
use Rattle.zone_spans.specs.Schedules.{instants, offsets}
use Rattle.zone_answers.specs.Due.{after_bars, with_bars}

-- what is still to be written of these texts, where the first is among them or was written
abbrev pub texts_left : Bool → List (List ℕ) → List ℕ
texts_left true texts = with_bars texts
texts_left false texts = after_bars texts

-- each of these is read as a local time
abbrev pub AreAt : ℤ → List (ℤ × ℤ) → Type 0
AreAt x [] = Unit {0}
AreAt x (shown ∷ rest) = (local_at shown.0 shown.1 ≡ x) × AreAt x rest

each_at : (total : ℤ → ℤ) (x : ℤ) (os : List ℤ)
    → AreAt x (map (in_force total) (map (instant_at x) (filter (λ o. int_eq (total (instant_at x o)) o) os)))
each_at total x [] = tt
each_at total x (o ∷ os) = by_test (int_eq (total (instant_at x o)) o) refl (each_at total x os)
  where
    left : List ℤ
    left = filter (λ o. int_eq (total (instant_at x o)) o) os

    back : (p : ℤ) → p ≡ o → local_at (instant_at x o) p ≡ x
    back p e = omega (arith, ints, e)

    by_test : (b : Bool) → int_eq (total (instant_at x o)) o ≡ b → AreAt x (map (in_force total) (map (instant_at x) left))
        → AreAt x (map (in_force total) (map (instant_at x) (cond b (o ∷ left) left)))
    by_test false is rest = rest
    by_test true is rest = (back (total (instant_at x o)) ((Decides-int_eq (total (instant_at x o)) o).0 is), rest)

-- so are all that are read as it
pub all_at : (total : ℤ → ℤ) (x : ℤ) → AreAt x (all_in_force total x)
unfolding all_in_force instants
all_at total x = each_at total x offsets
