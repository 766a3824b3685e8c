-- A list in order by a test, where items that tie stay in the order that they had.
use Rattle.std.specs.{Prelude.{Bool, cond, List, [], ◌∷◌}, declared.cmp.Ordering.{Ordering}, Ordering.{is_lt}}

-- before the first item that is not below it
abbrev pub put_in : {X : Type 0} → (X → X → Bool) → X → List X → List X
put_in below x [] = x ∷ []
put_in below x (y ∷ ys) = cond (below y x) (y ∷ put_in below x ys) (x ∷ y ∷ ys)

abbrev pub stable_sort : {X : Type 0} → (X → X → Bool) → List X → List X
stable_sort below [] = []
stable_sort below (x ∷ xs) = put_in below x (stable_sort below xs)

-- the test by a key of each item
abbrev pub by_key : {X K : Type 0} → (K → K → Ordering) → (X → K) → X → X → Bool
by_key cmp key x y = is_lt (cmp (key x) (key y))
