-- There is one list that rises and in which items that tie stand in the order of another: its stable sort.
use Rattle.std.proofs.{Common.{◌≡◌, ℕ, suc, ◌<◌, ◌≤◌, Bool, true, false, not, ◌&&◌, cond, List, [], ◌∷◌, length, get_or, filter, refl, sym, ap, ◌∙◌, arith}, lemmas.List.Sorted.{sorted_far}, lemmas.Bool.{false≢true, and_parts, not-true}}
use Rattle.std.specs.{Cmp.{IsStrictWeakOrder}, List.Sorted.{IsSortedBy, IsStableBy, ties}}
use Rattle.basics.specs.{Sorted.{put_in, stable_sort}, SortedLaws.{NoneBelow, Rises, Rises-stable_sort}}

module _ {X : Type 0} (below : X → X → Bool) where
  ties_first : (x y : X) → ties below x y ≡ true → below x y ≡ false
  ties_first x y h = not-true (below x y) (and_parts (not (below x y)) (not (below y x)) h).0

  ties_second : (x y : X) → ties below x y ≡ true → below y x ≡ false
  ties_second x y h = not-true (below y x) (and_parts (not (below x y)) (not (below y x)) h).1

  ties_both : (x y : X) → below x y ≡ false → below y x ≡ false → ties below x y ≡ true
  ties_both x y h k = λ i. not (h i) && not (k i)

  none_below : (a : X) (xs : List X) → ((k : ℕ) (d : X) → k < length xs → below (get_or xs k d) a ≡ false) → NoneBelow below a xs
  none_below a [] h = tt
  none_below a (x ∷ xs) h = (h 0 x (omega arith), none_below a xs (λ k d l. h (suc k) d (omega (arith, l))))

  rises : (xs : List X) → ((i j : ℕ) (d : X) → i ≤ j → j < length xs → below (get_or xs j d) (get_or xs i d) ≡ false) → Rises below xs
  rises [] h = tt
  rises (x ∷ xs) h = (
    none_below x xs (λ k d l. h 0 (suc k) d (omega arith) (omega (arith, l))),
    rises xs (λ i j d le l. h (suc i) (suc j) d (omega (arith, le)) (omega (arith, l))),
  )

module _ {X : Type 0} (below : X → X → Bool) (order : IsStrictWeakOrder below) where
  below_itself : (x : X) → below x x ≡ false
  below_itself x = elim (below x x) as (λ b. below x x ≡ b → below x x ≡ false) [ true ↦ λ h. order.one_way x x h | false ↦ λ h. h ] refl

  ties_itself : (x : X) → ties below x x ≡ true
  ties_itself x = ties_both below x x (below_itself x) (below_itself x)

  -- where one ties with y, y is not below what none is below
  not_below : (y a : X) (zs : List X) → NoneBelow below a zs → (w : X) (ws : List X) → filter (ties below y) zs ≡ w ∷ ws
      → below y a ≡ false
  not_below y a [] none w ws h = cc
  not_below y a (v ∷ vs) none w ws h =
      elim (ties below y v)
      as (λ b. ties below y v ≡ b → cond b (v ∷ filter (ties below y) vs) (filter (ties below y) vs) ≡ w ∷ ws → below y a ≡ false) [
        | true ↦ λ t e. order.chain y v a (ties_first below y v t) none.0
        | false ↦ λ t e. not_below y a vs none.1 w ws e
      ] refl h

  not_below_from : (y a : X) (zs : List X) → NoneBelow below a zs → (w : X) (ws : List X) → filter (ties below y) (a ∷ zs) ≡ w ∷ ws
      → below y a ≡ false
  not_below_from y a zs none w ws h =
      elim (ties below y a)
      as (λ b. ties below y a ≡ b → cond b (a ∷ filter (ties below y) zs) (filter (ties below y) zs) ≡ w ∷ ws → below y a ≡ false) [
        | true ↦ λ t e. ties_first below y a t
        | false ↦ λ t e. not_below y a zs none w ws e
      ] refl h

  tied_with_itself : (y : X) (ys : List X) → filter (ties below y) (y ∷ ys) ≡ y ∷ filter (ties below y) ys
  tied_with_itself y ys = ap (λ b. cond b (y ∷ filter (ties below y) ys) (filter (ties below y) ys)) (ties_itself y)

  tied_with : (y z : X) (zs : List X) → ties below y z ≡ true → filter (ties below y) (z ∷ zs) ≡ z ∷ filter (ties below y) zs
  tied_with y z zs t = ap (λ b. cond b (z ∷ filter (ties below y) zs) (filter (ties below y) zs)) t

  same_rest : (b : Bool) (x y : X) (xs ys : List X) → x ≡ y → cond b (x ∷ xs) xs ≡ cond b (y ∷ ys) ys → xs ≡ ys
  same_rest true x y xs ys e h = cc
  same_rest false x y xs ys e h = h

  same_head : (x y : X) (xs ys : List X) → x ∷ xs ≡ y ∷ ys → x ≡ y
  same_head x y xs ys h = cc

  -- two lists that rise, with ties alike, are one
  same_order : (ys zs : List X) → Rises below ys → Rises below zs → ((x : X) → filter (ties below x) ys ≡ filter (ties below x) zs)
      → ys ≡ zs
  same_order [] [] up up' h = refl
  same_order [] (z ∷ zs) up up' h = let e = h z ∙ tied_with_itself z zs in cc
  same_order (y ∷ ys) [] up up' h = let e = sym (h y) ∙ tied_with_itself y ys in cc
  same_order (y ∷ ys) (z ∷ zs) up up' h =
      let above = not_below_from y z zs up'.0 y (filter (ties below y) ys) (sym (h y) ∙ tied_with_itself y ys) in
      let beneath = not_below_from z y ys up.0 z (filter (ties below z) zs) (h z ∙ tied_with_itself z zs) in
      let tie = tied_with y z zs (ties_both below y z above beneath) in
      let head : y ≡ z = same_head y z (filter (ties below y) ys) (filter (ties below y) zs) (sym (tied_with_itself y ys) ∙ h y ∙ tie) in
      let tied = λ (x : X). h x ∙ (λ i. cond (ties below x (sym head i)) (z ∷ filter (ties below x) zs) (filter (ties below x) zs)) in
      let rest = same_order ys zs up.1 up'.1 (λ x. same_rest (ties below x y) y z _ _ head (tied x)) in
      λ i. head i ∷ rest i

  swapped : (a b : Bool) (x y : X) (zs : List X) → (a && b) ≡ false
      → cond a (y ∷ cond b (x ∷ zs) zs) (cond b (x ∷ zs) zs) ≡ cond b (x ∷ cond a (y ∷ zs) zs) (cond a (y ∷ zs) zs)
  swapped true true x y zs h = absurd (false≢true (sym h))
  swapped true false x y zs h = refl
  swapped false b x y zs h = refl

  -- where y is below x, not both tie with q
  apart : (q x y : X) → below y x ≡ true → (ties below q y && ties below q x) ≡ false
  apart q x y h =
      elim (ties below q y && ties below q x) as (λ b. (ties below q y && ties below q x) ≡ b → b ≡ false) [
        | true ↦ λ t.
            let both = and_parts (ties below q y) (ties below q x) t in
            absurd (false≢true (sym (order.chain y q x (ties_second below q y both.0) (ties_first below q x both.1)) ∙ h))
        | false ↦ λ t. refl
      ] refl

  ties_put_in : (q x : X) (ys : List X) → filter (ties below q) (put_in below x ys) ≡ filter (ties below q) (x ∷ ys)
  ties_put_in q x [] = refl
  ties_put_in q x (y ∷ ys) =
      elim (below y x)
      as (λ b. below y x ≡ b → filter (ties below q) (cond b (y ∷ put_in below x ys) (x ∷ y ∷ ys)) ≡ filter (ties below q) (x ∷ y ∷ ys)) [
        | true ↦ λ h.
            ap (λ zs. cond (ties below q y) (y ∷ zs) zs) (ties_put_in q x ys)
            ∙ swapped (ties below q y) (ties below q x) x y (filter (ties below q) ys) (apart q x y h)
        | false ↦ λ h. refl
      ] refl

  ties_stable_sort : (q : X) (xs : List X) → filter (ties below q) (stable_sort below xs) ≡ filter (ties below q) xs
  ties_stable_sort q [] = refl
  ties_stable_sort q (x ∷ xs) =
      ties_put_in q x (stable_sort below xs) ∙ ap (λ zs. cond (ties below q x) (x ∷ zs) zs) (ties_stable_sort q xs)

  -- what std says of a stable sort leaves one list
  pub the_stable_sort : (xs ys : List X) → IsSortedBy below ys → IsStableBy below xs ys → ys ≡ stable_sort below xs
  the_stable_sort xs ys up stable =
      same_order ys (stable_sort below xs) (rises below ys (sorted_far below order ys up)) (Rises-stable_sort below order xs)
      (λ q. stable q ∙ sym (ties_stable_sort q xs))
