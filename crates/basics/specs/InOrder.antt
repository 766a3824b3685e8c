-- The items of a list in an order, each once.
use Rattle.std.specs.{Prelude.{List, [], ◌∷◌}, declared.cmp.Ordering.{Ordering}, BTreeSet.{insert_key}}

abbrev pub in_order : {K : Type 0} → (K → K → Ordering) → List K → List K
in_order cmp [] = []
in_order cmp (x ∷ xs) = insert_key cmp (in_order cmp xs) x
