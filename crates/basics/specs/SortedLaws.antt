-- What holds of `stable_sort` by a test that orders the items.
use Rattle.std.specs.{Prelude.{◌≡◌, Bool, true, false, cond, List, [], ◌∷◌, refl}, Cmp.{IsStrictWeakOrder}}
use Rattle.basics.specs.Sorted.{put_in, stable_sort}

-- no item of the list is below that one
abbrev pub NoneBelow : {X : Type 0} → (X → X → Bool) → X → List X → Type 0
NoneBelow below x [] = Unit {0}
NoneBelow below x (y ∷ ys) = (below y x ≡ false) × NoneBelow below x ys

-- no item is below one in front of it
abbrev pub Rises : {X : Type 0} → (X → X → Bool) → List X → Type 0
Rises below [] = Unit {0}
Rises below (x ∷ xs) = NoneBelow below x xs × Rises below xs

module _ {X : Type 0} (below : X → X → Bool) (order : IsStrictWeakOrder below) where
  NoneBelow-put_in : (a x : X) (ys : List X) → below x a ≡ false → NoneBelow below a ys → NoneBelow below a (put_in below x ys)
  NoneBelow-put_in a x [] above none = (above, tt)
  NoneBelow-put_in a x (y ∷ ys) above none =
      elim (below y x) as (λ b. NoneBelow below a (cond b (y ∷ put_in below x ys) (x ∷ y ∷ ys))) [
        | true ↦ (none.0, NoneBelow-put_in a x ys above none.1)
        | false ↦ (above, none)
      ]

  NoneBelow-lower : (x y : X) (ys : List X) → below y x ≡ false → NoneBelow below y ys → NoneBelow below x ys
  NoneBelow-lower x y [] above none = tt
  NoneBelow-lower x y (z ∷ zs) above none = (order.chain z y x none.0 above, NoneBelow-lower x y zs above none.1)

  Rises-put_in : (x : X) (ys : List X) → Rises below ys → Rises below (put_in below x ys)
  Rises-put_in x [] up = (tt, tt)
  Rises-put_in x (y ∷ ys) up =
      elim (below y x) as (λ b. below y x ≡ b → Rises below (cond b (y ∷ put_in below x ys) (x ∷ y ∷ ys))) [
        | true ↦ λ is. (NoneBelow-put_in y x ys (order.one_way y x is) up.0, Rises-put_in x ys up.1)
        | false ↦ λ is. ((is, NoneBelow-lower x y ys is up.0), up)
      ] refl

  -- a sorted list rises
  pub Rises-stable_sort : (xs : List X) → Rises below (stable_sort below xs)
  Rises-stable_sort [] = tt
  Rises-stable_sort (x ∷ xs) = Rises-put_in x (stable_sort below xs) (Rises-stable_sort xs)
