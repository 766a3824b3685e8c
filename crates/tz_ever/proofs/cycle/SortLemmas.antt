-- Items that come after all others, in their order, stay behind them when all are sorted.
use Rattle.std.proofs.Common.{◌≡◌, List, [], ◌∷◌, refl, Bool, ap, ◌∙◌, true, false, ◌++◌, cond}
use Rattle.basics.specs.Sorted.{stable_sort, put_in}

-- none of the items is below that one
abbrev pub NoneIsBelow : {X : Type 0} → (X → X → Bool) → X → List X → Type 0
NoneIsBelow below x [] = Unit {0}
NoneIsBelow below x (g ∷ gs) = (below g x ≡ false) × NoneIsBelow below x gs

-- all of the items are below that one
abbrev pub AllAreBelow : {X : Type 0} → (X → X → Bool) → X → List X → Type 0
AllAreBelow below x [] = Unit {0}
AllAreBelow below x (g ∷ gs) = (below g x ≡ true) × AllAreBelow below x gs

-- none of the last items is below one of the first
abbrev pub Precede : {X : Type 0} → (X → X → Bool) → List X → List X → Type 0
Precede below [] gs = Unit {0}
Precede below (x ∷ xs) gs = NoneIsBelow below x gs × Precede below xs gs

-- the items rise, and those items are below each of them
abbrev pub RiseAbove : {X : Type 0} → (X → X → Bool) → List X → List X → Type 0
RiseAbove below ys [] = Unit {0}
RiseAbove below ys (g ∷ gs) = AllAreBelow below g ys × NoneIsBelow below g gs × RiseAbove below ys gs

module _ {X : Type 0} (below : X → X → Bool) where
  put_at_head : (x : X) (gs : List X) → NoneIsBelow below x gs → put_in below x gs ≡ x ∷ gs
  put_at_head x [] none = refl
  put_at_head x (g ∷ gs) none = rw none.0

  put_in_front : (x : X) (ys gs : List X) → NoneIsBelow below x gs → put_in below x (ys ++ gs) ≡ put_in below x ys ++ gs
  put_in_front x [] gs none = put_at_head x gs none
  put_in_front x (y ∷ ys) gs none =
      elim (below y x) as (λ b. cond b (y ∷ put_in below x (ys ++ gs)) (x ∷ y ∷ ys ++ gs) ≡ cond b (y ∷ put_in below x ys) (x ∷ y ∷ ys) ++ gs) [
        | true ↦ ap (λ l. y ∷ l) (put_in_front x ys gs none)
        | false ↦ refl
      ]

  put_behind : (x : X) (ys gs : List X) → AllAreBelow below x ys → NoneIsBelow below x gs → put_in below x (ys ++ gs) ≡ ys ++ (x ∷ gs)
  put_behind x [] gs all none = put_at_head x gs none
  put_behind x (y ∷ ys) gs all none = rw all.0 (ap (λ l. y ∷ l) (put_behind x ys gs all.1 none))

  AllAreBelow-put_in : (x y : X) (ys : List X) → below y x ≡ true → AllAreBelow below x ys → AllAreBelow below x (put_in below y ys)
  AllAreBelow-put_in x y [] here all = (here, tt)
  AllAreBelow-put_in x y (z ∷ zs) here all =
      elim (below z y) as (λ b. AllAreBelow below x (cond b (z ∷ put_in below y zs) (y ∷ z ∷ zs))) [
        | true ↦ (all.0, AllAreBelow-put_in x y zs here all.1)
        | false ↦ (here, all)
      ]

  pub AllAreBelow-sorted : (x : X) (ys : List X) → AllAreBelow below x ys → AllAreBelow below x (stable_sort below ys)
  AllAreBelow-sorted x [] all = tt
  AllAreBelow-sorted x (y ∷ ys) all = AllAreBelow-put_in x y (stable_sort below ys) all.0 (AllAreBelow-sorted x ys all.1)

  last_sorted : (gs ys : List X) → RiseAbove below ys gs → stable_sort below (gs ++ ys) ≡ stable_sort below ys ++ gs
  last_sorted [] ys rise = append_nil (stable_sort below ys)
    where
      append_nil : (l : List X) → l ≡ l ++ []
      append_nil [] = refl
      append_nil (z ∷ l) = ap (λ k. z ∷ k) (append_nil l)
  last_sorted (g ∷ gs) ys rise =
      ap (put_in below g) (last_sorted gs ys rise.2)
      ∙ put_behind g (stable_sort below ys) gs (AllAreBelow-sorted g ys rise.0) rise.1

  -- those in front and those at the end are sorted by themselves
  pub sorted-more : (xs gs ys : List X) → Precede below xs gs → RiseAbove below ys gs
      → stable_sort below (xs ++ (gs ++ ys)) ≡ stable_sort below (xs ++ ys) ++ gs
  sorted-more [] gs ys precede rise = last_sorted gs ys rise
  sorted-more (x ∷ xs) gs ys precede rise =
      ap (put_in below x) (sorted-more xs gs ys precede.1 rise)
      ∙ put_in_front x (stable_sort below (xs ++ ys)) gs precede.0
