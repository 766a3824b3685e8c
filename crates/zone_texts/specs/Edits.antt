-- Texts that are one edit apart.
use Rattle.std.specs.{Prelude.{ℕ, List, [], ◌∷◌, map, Bool, ◌&&◌, ◌||◌, false, not}, List.{list_any}}
use Rattle.zone_texts.specs.Same.{same}

-- a text with one byte taken out, for each of its bytes
abbrev pub taken_out : List ℕ → List (List ℕ)
taken_out [] = []
taken_out (x ∷ xs) = xs ∷ map (λ rest. x ∷ rest) (taken_out xs)

-- a text with two neighbours swapped, for each two
abbrev pub swapped : List ℕ → List (List ℕ)
swapped [] = []
swapped (x ∷ []) = []
swapped (x ∷ y ∷ xs) = (y ∷ x ∷ xs) ∷ map (λ rest. x ∷ rest) (swapped (y ∷ xs))

-- the second text is the first with one byte taken out
abbrev pub is_one_less : List ℕ → List ℕ → Bool
is_one_less a b = list_any (same b) (taken_out a)

-- two texts at the same place of two lists are the same
abbrev pub any_same : List (List ℕ) → List (List ℕ) → Bool
any_same [] ys = false
any_same (x ∷ xs) [] = false
any_same (x ∷ xs) (y ∷ ys) = same x y || any_same xs ys

-- the texts are the same with the byte at one place taken out of both
abbrev pub is_one_other : List ℕ → List ℕ → Bool
is_one_other a b = any_same (taken_out a) (taken_out b)

-- the second text is the first with two neighbours swapped
abbrev pub is_one_swap : List ℕ → List ℕ → Bool
is_one_swap a b = list_any (same b) (swapped a)

-- a byte more, a byte less, another byte, or two neighbours swapped
unfoldable pub is_one_edit : List ℕ → List ℕ → Bool
is_one_edit a b = not (same a b) && (is_one_less a b || is_one_less b a || is_one_other a b || is_one_swap a b)
