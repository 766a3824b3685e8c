-- What a sort and a removal of doubles make of children, by the order that is derived for them.
use Rattle.std.proofs.{Common.{◌≡◌, ℕ, Bool, true, false, cond, List, [], ◌∷◌, map, refl, sym, ap, ◌∙◌, subst}, lemmas.List.Filters.{dedup_is}, lemmas.List.Kept.{IsStrictlySortedBy-dedup}, lemmas.List.Sorted.{list_any-IsPermutation}}
use Rattle.std.proofs.lemmas.Map.Text.{is_eq-slice_cmp}
use Rattle.std.specs.{Borrow.{Bor}, Prelude.{◌||◌, ◌&&◌}, Str.{bytes_eq}, declared.cmp.Ordering.{Ordering}, Cmp.{Equal-is, on_total, both_tied}, List.{dedup, dedup_from, list_any}, List.Retain.{IsFiltered, DiffersFromLast}}
use Rattle.std.specs.{List.Sorted.{IsPermutation, IsSorted, IsStrictlySortedBy}, Ordering.{is_eq, ordering_then}}
use Rattle.basics.specs.{InOrder.{in_order}, Keyed.{text_cmp}, InOrderLaws.{in_order_is, or_twice, rises-viewed, sorted_from_rises}}
use Rattle.zone_table.{specs.NameTree.{child_cmp}, specs.Shown.{child_value}, specs.Placed.{placed_cmp, placed_value}, proofs.TreeLemmas.{any-map, placed_total, placed_same}}
use Rattle.zone_table.specs.contracts.structure.ChildOrd.TheImpl as child_order
use Rattle.zone_table.specs.contracts.structure.ChildPartialEq.TheImpl as child_equality
use Rattle.zone_table.specs.declared.structure.Child as code
use Rattle.zone_table.specs.declared.structure.Child.TheVariants as child

child_tied : (x y : code.Child) → child_order.ghosts.cmp x y ≡ child_cmp (child_value x) (child_value y)
child_tied (child.Submodule a) (child.Submodule b) = refl
child_tied (child.Submodule a) (child.TimeZone b) = refl
child_tied (child.TimeZone a) (child.Submodule b) = refl
child_tied (child.TimeZone a) (child.TimeZone b) = refl

-- a child beside its part, and the order and the equality of such pairs
abbrev Pair : Type 0
Pair = Bor (List ℕ) × code.Child

abbrev pair_cmp : Pair → Pair → Ordering
pair_cmp x y = ordering_then (text_cmp x.0.now y.0.now) (child_order.ghosts.cmp x.1 y.1)

abbrev pair_eq : Pair → Pair → Bool
pair_eq x y = bytes_eq x.0.now y.0.now && child_equality.ghosts.eq x.1 y.1

placed_tied : (x y : Pair) → pair_cmp x y ≡ placed_cmp (placed_value x) (placed_value y)
placed_tied x y = ap (ordering_then (text_cmp x.0.now y.0.now)) (child_tied x.1 y.1)

child_equal : (x y : code.Child) → child_equality.ghosts.eq x y ≡ is_eq (child_cmp (child_value x) (child_value y))
child_equal (child.Submodule a) (child.Submodule b) = sym (is_eq-slice_cmp a.now b.now)
child_equal (child.Submodule a) (child.TimeZone b) = refl
child_equal (child.TimeZone a) (child.Submodule b) = refl
child_equal (child.TimeZone a) (child.TimeZone b) = sym (is_eq-slice_cmp a.now b.now)

placed_equal : (x y : Pair) → pair_eq x y ≡ is_eq (placed_cmp (placed_value x) (placed_value y))
placed_equal x y =
    both_tied _ _ (text_cmp x.0.now y.0.now) (child_cmp (child_value x.1) (child_value y.1))
    (sym (is_eq-slice_cmp x.0.now y.0.now)) (child_equal x.1 y.1)

any-dedup_from : {X : Type 0} (same : X → X → Bool) (test : X → Bool) → ((x y : X) → same x y ≡ true → test x ≡ test y)
    → (k : X) (xs : List X) → list_any test (dedup_from same k xs) ≡ (test k || list_any test xs)
any-dedup_from same test alike k [] = refl
any-dedup_from same test alike k (x ∷ xs) =
    elim (same x k) as (λ b. same x k ≡ b
    → list_any test (cond b (dedup_from same k xs) (k ∷ dedup_from same x xs)) ≡ (test k || (test x || list_any test xs))) [
      | true ↦ λ e. any-dedup_from same test alike k xs ∙ or_twice (test k) (list_any test xs)
          ∙ ap (λ b. test k || (b || list_any test xs)) (sym (alike x k e))
      | false ↦ λ _. ap (λ b. test k || b) (any-dedup_from same test alike x xs)
    ] refl

any-dedup : {X : Type 0} (same : X → X → Bool) (test : X → Bool) → ((x y : X) → same x y ≡ true → test x ≡ test y) → (xs : List X)
    → list_any test (dedup same xs) ≡ list_any test xs
any-dedup same test alike [] = refl
any-dedup same test alike (x ∷ xs) = any-dedup_from same test alike x xs

pub in_order_from_sort : (xs sorted left : List Pair) → IsPermutation xs sorted → IsSorted pair_cmp sorted
    → IsFiltered (DiffersFromLast pair_eq) [] sorted left
    → map placed_value left ≡ in_order placed_cmp (map placed_value xs)
in_order_from_sort xs sorted left moved up kept =
    let by_value = λ (x y : Pair). placed_cmp (placed_value x) (placed_value y) in
    let up : IsSorted by_value sorted = subst (λ (R : Pair → Pair → Ordering). IsSorted R sorted) (λ i x y. placed_tied x y i) up in
    let strict =
    subst (IsStrictlySortedBy by_value) (sym (dedup_is pair_eq sorted left kept))
    (IsStrictlySortedBy-dedup (on_total placed_value placed_total) placed_equal sorted up) in
    in_order_is placed_total placed_same (map placed_value xs) (map placed_value left)
    (sorted_from_rises placed_cmp (map placed_value left) (rises-viewed by_value placed_cmp placed_value (λ x y. refl) left strict))
    (λ test. any-map test placed_value left
    ∙ ap (list_any (λ x. test (placed_value x))) (dedup_is pair_eq sorted left kept)
    ∙ any-dedup pair_eq (λ x. test (placed_value x))
    (λ x y e. ap test (placed_same (placed_value x) (placed_value y)
    ((Equal-is (placed_cmp (placed_value x) (placed_value y))).0 (sym (placed_equal x y) ∙ e)))) sorted
    ∙ sym (list_any-IsPermutation (λ x. test (placed_value x)) xs sorted moved)
    ∙ sym (any-map test placed_value xs))
