-- A test that passes at every item, by one that passes at some.
use Rattle.std.{proofs.Common.{◌≡◌, Bool, true, false, not, List, [], ◌∷◌, refl}, specs.Prelude.{◌||◌, ◌&&◌}, specs.List.{list_all, list_any}}

-- all pass where none fails
pub all_by_any : {X : Type 0} (test : X → Bool) (xs : List X) → list_all test xs ≡ not (list_any (λ x. not (test x)) xs)
all_by_any test [] = refl
all_by_any test (x ∷ xs) =
    elim (test x) as (λ b. (b && list_all test xs) ≡ not (not b || list_any (λ y. not (test y)) xs)) [
      | true ↦ all_by_any test xs
      | false ↦ refl
    ]
