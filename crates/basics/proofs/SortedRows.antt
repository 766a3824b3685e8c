-- Lists that are sorted by the definition.
use Rattle.std.{proofs.Common.{◌≡◌, ℕ, [], ◌∷◌, refl}, specs.Ordering.{nat_cmp}}
use Rattle.basics.specs.Sorted.{stable_sort, by_key}

-- three times with labels: 7 stands at two labels, which keep their order
labelled : stable_sort (by_key nat_cmp (λ (e : ℕ × ℕ). e.0)) ((9, 1) ∷ (7, 2) ∷ (8, 3) ∷ (7, 1) ∷ [])
    ≡ (7, 2) ∷ (7, 1) ∷ (8, 3) ∷ (9, 1) ∷ []
labelled = refl
