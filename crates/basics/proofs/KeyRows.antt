-- Texts in the order of their bytes, each once; lists that a map has only where they aren't empty; texts by their bytes.
use Rattle.std.{proofs.Common.{◌≡◌, ℕ, true, false, [], ◌∷◌, Some, None, map, refl}, specs.Prelude.{codes}}
use Rattle.basics.specs.{Bytes.{are_same_bytes}, InOrder.{in_order}, Keyed.{text_cmp}, Listed.{listed}}

-- a text comes before those that go on after it, and capitals before small letters
ordered : in_order text_cmp (codes "b" ∷ codes "ab" ∷ codes "a" ∷ codes "b" ∷ codes "B" ∷ [])
    ≡ codes "B" ∷ codes "a" ∷ codes "ab" ∷ codes "b" ∷ []
ordered = refl

kept : map (listed {X = ℕ}) ([] ∷ (1 ∷ 2 ∷ []) ∷ []) ≡ None ∷ Some (1 ∷ 2 ∷ []) ∷ []
kept = refl

compared : are_same_bytes (codes "ab") (codes "ab") ∷ are_same_bytes (codes "ab") (codes "a") ∷ are_same_bytes (codes "a") (codes "ab")
    ∷ are_same_bytes (codes "a") (codes "A") ∷ [] ≡ true ∷ false ∷ false ∷ false ∷ []
compared = refl
