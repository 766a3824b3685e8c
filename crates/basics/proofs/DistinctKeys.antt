-- Keys that differ: in order they strictly rise.
use Rattle.std.proofs.{Common.{◌≡◌, Bool, false, List, [], ◌∷◌, map, cond, refl, ap, ◌∙◌, subst}, lemmas.List.Kept.{IsStrictlySortedBy-dedup}, lemmas.Map.Keys.{IsDistinct-head, IsDistinct-tail}}
use Rattle.std.specs.{declared.cmp.Ordering.{Ordering}, Cmp.{IsTotalOrder, eq_by_cmp_equiv}, List.{AllByRecursion, IsDistinct, dedup_from}, List.Sorted.{IsStrictlySortedBy, IsSorted}, Ordering.{eq_by_cmp}}

-- a list is distinct where what it shows is
apart_unviewed : {X K : Type 0} (F : K → K → Bool) (view : X → K) (x : X) (ys : List X)
    → AllByRecursion (λ k. F (view x) k ≡ false) (map view ys) → AllByRecursion (λ y. F (view x) (view y) ≡ false) ys
apart_unviewed F view x [] h = tt
apart_unviewed F view x (y ∷ ys) h = (h.0, apart_unviewed F view x ys h.1)

pub IsDistinct-unviewed : {X K : Type 0} (F : K → K → Bool) (view : X → K) (xs : List X)
    → IsDistinct F (map view xs) → IsDistinct (λ x y. F (view x) (view y)) xs
unfolding IsDistinct
IsDistinct-unviewed F view [] h = tt
IsDistinct-unviewed F view (x ∷ xs) h = (apart_unviewed F view x xs h.0, IsDistinct-unviewed F view xs h.1)

undoubled : {X : Type 0} (E : X → X → Bool) → ((x y : X) → E x y ≡ E y x) → (x : X) (xs : List X)
    → AllByRecursion (λ y. E x y ≡ false) xs → IsDistinct E xs → dedup_from E x xs ≡ x ∷ xs
undoubled E flips x [] h d = refl
undoubled E flips x (y ∷ ys) h d =
    ap (λ b. cond b (dedup_from E x ys) (x ∷ dedup_from E y ys)) (flips y x ∙ h.0)
    ∙ ap (λ zs. x ∷ zs) (undoubled E flips y ys (IsDistinct-head E y ys d) (IsDistinct-tail E y ys d))

-- a list in order whose items differ strictly rises
pub sorted_from_distinct : {X : Type 0} (R : X → X → Ordering) (o : IsTotalOrder R) (xs : List X)
    → IsSorted R xs → IsDistinct (eq_by_cmp R) xs → IsStrictlySortedBy R xs
sorted_from_distinct R o [] up d = IsStrictlySortedBy-dedup o {E = eq_by_cmp R} (λ x y. refl) [] up
sorted_from_distinct R o (x ∷ xs) up d =
    let E = eq_by_cmp R in
    subst (IsStrictlySortedBy R) (undoubled E ((eq_by_cmp_equiv o).symm) x xs (IsDistinct-head E x xs d) (IsDistinct-tail E x xs d))
    (IsStrictlySortedBy-dedup o {E = E} (λ x y. refl) (x ∷ xs) up)
