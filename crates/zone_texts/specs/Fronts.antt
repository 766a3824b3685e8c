-- Texts that differ in their first bytes.
use Rattle.std.specs.Prelude.{ℕ, ◌==◌, List, [], ◌∷◌, length, Bool, ◌||◌, false}
use Rattle.zone_texts.specs.Same.{same}

-- the first two bytes are swapped
abbrev pub are_swapped_in_front : List ℕ → List ℕ → Bool
are_swapped_in_front [] b = false
are_swapped_in_front (x ∷ []) b = false
are_swapped_in_front (x ∷ y ∷ xs) [] = false
are_swapped_in_front (x ∷ y ∷ xs) (u ∷ []) = false
are_swapped_in_front (x ∷ y ∷ xs) (u ∷ v ∷ vs) = same (u ∷ v ∷ vs) (y ∷ x ∷ xs)

-- the first byte of one is one more, or another, or the first two are swapped
abbrev pub is_edit_in_front : List ℕ → List ℕ → Bool
is_edit_in_front [] b = length b == 1
is_edit_in_front (x ∷ xs) [] = length (x ∷ xs) == 1
is_edit_in_front (x ∷ xs) (y ∷ ys) = same (y ∷ ys) xs || same (x ∷ xs) ys || same xs ys || are_swapped_in_front (x ∷ xs) (y ∷ ys)
