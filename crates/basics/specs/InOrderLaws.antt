-- Lists that strictly rise: two with the same items are one, so `in_order` is the one with the items of a list.
use Rattle.std.proofs.{Common.{◌≡◌, Bool, true, false, not, List, [], ◌∷◌, map, Some, None, cond, refl, sym, ap, ◌∙◌, subst}, Math.Bool.{or_assoc, or_comm}, lemmas.Bool.{and_from, and_parts}, lemmas.Map.Keys.{sorted_head, sorted_tail}}
use Rattle.std.specs.{Prelude.{T, ◌||◌, ◌&&◌}, declared.cmp.Ordering.{Ordering}, declared.cmp.Ordering.TheVariants.{Less, Equal, Greater}, Cmp.{IsTotalOrder}, FinMap.{FinMap, IsAntisymmetric, entries, entries_sorted, find, is_sorted, keys, put}}
use Rattle.std.specs.{BTreeSet.{insert_key}, FinMap.Entries.{below_all, by_order, is_sorted-put, same_entries}, List.{AllByRecursion, list_any}, List.Sorted.{IsStrictlySortedBy}, Ordering.{is_lt, eq_by_cmp, match_ordering}}
use Rattle.basics.specs.InOrder.{in_order}

-- each item with nothing beside it
abbrev pub tagged : {K : Type 0} → List K → List (K × Unit {0})
tagged xs = map (λ x. (x, tt)) xs

-- each item is below the next
abbrev pub RisesStrictly : {K : Type 0} → (K → K → Ordering) → List K → Type 0
RisesStrictly R xs = is_sorted R (tagged xs) ≡ true

-- ---- two lists that strictly rise are one where they have the same items

untagged : {K : Type 0} (xs : List K) → map (λ e. e.0) (tagged xs) ≡ xs
untagged [] = refl
untagged (x ∷ xs) = ap (λ ys. x ∷ ys) (untagged xs)

find-tagged : {K : Type 0} (R : K → K → Ordering) (q : K) (xs : List K)
    → find R q (tagged xs) ≡ cond (list_any (eq_by_cmp R q) xs) (Some tt) None
find-tagged R q [] = refl
find-tagged R q (x ∷ xs) =
    elim (eq_by_cmp R q x)
    as (λ b. cond b (Some tt) (find R q (tagged xs)) ≡ cond (b || list_any (eq_by_cmp R q) xs) (Some tt) None) [
      | true ↦ refl
      | false ↦ find-tagged R q xs
    ]

pub same_rising : {K : Type 0} {R : K → K → Ordering} → IsTotalOrder R → IsAntisymmetric R → (xs ys : List K)
    → RisesStrictly R xs → RisesStrictly R ys
    → ((q : K) → list_any (eq_by_cmp R q) xs ≡ list_any (eq_by_cmp R q) ys) → xs ≡ ys
same_rising {K} {R = R} o same xs ys up-x up-y alike =
    let found = λ (q : K). find-tagged R q xs ∙ ap (λ b. cond b (Some tt) None) (alike q) ∙ sym (find-tagged R q ys) in
    sym (untagged xs)
    ∙ ap (λ es. map (λ e. e.0) es) (same_entries R o same (tagged xs) (tagged ys) (subst T (sym up-x) tt) (subst T (sym up-y) tt) found)
    ∙ untagged ys

-- ---- by std's word

pub less : (r : Ordering) → is_lt r ≡ true → r ≡ Less
less Less e = refl
less Equal e = cc
less Greater e = cc

below_rises : {K : Type 0} (R : K → K → Ordering) (x : K) (ys : List K)
    → below_all R x (tagged ys) ≡ true → AllByRecursion (λ y. R x y ≡ Less) ys
below_rises R x [] h = tt
below_rises R x (y ∷ ys) h = let parts = and_parts _ _ h in (less (R x y) parts.0, below_rises R x ys parts.1)

pub sorted_from_rises : {K : Type 0} (R : K → K → Ordering) (xs : List K) → RisesStrictly R xs → IsStrictlySortedBy R xs
unfolding IsStrictlySortedBy
sorted_from_rises R [] h = tt
sorted_from_rises R (x ∷ xs) h = let parts = and_parts _ _ h in (below_rises R x xs parts.0, sorted_from_rises R xs parts.1)

rises_below : {K : Type 0} (R : K → K → Ordering) (x : K) (ys : List K)
    → AllByRecursion (λ y. R x y ≡ Less) ys → below_all R x (tagged ys) ≡ true
rises_below R x [] h = refl
rises_below R x (y ∷ ys) h = and_from _ _ (ap is_lt h.0) (rises_below R x ys h.1)

pub rises_from_sorted : {K : Type 0} (R : K → K → Ordering) (xs : List K) → IsStrictlySortedBy R xs → RisesStrictly R xs
rises_from_sorted R [] h = refl
rises_from_sorted R (x ∷ xs) h = and_from _ _ (rises_below R x xs (sorted_head R x xs h)) (rises_from_sorted R xs (sorted_tail R x xs h))

-- ---- what a list shows rises where the list does

below_viewed : {X K : Type 0} (R : X → X → Ordering) (S : K → K → Ordering) (view : X → K) → ((x y : X) → R x y ≡ S (view x) (view y))
    → (x : X) (ys : List X) → AllByRecursion (λ y. R x y ≡ Less) ys → below_all S (view x) (tagged (map view ys)) ≡ true
below_viewed R S view tied x [] h = refl
below_viewed R S view tied x (y ∷ ys) h = and_from _ _ (ap is_lt (sym (tied x y) ∙ h.0)) (below_viewed R S view tied x ys h.1)

pub rises-viewed : {X K : Type 0} (R : X → X → Ordering) (S : K → K → Ordering) (view : X → K) → ((x y : X) → R x y ≡ S (view x) (view y))
    → (xs : List X) → IsStrictlySortedBy R xs → RisesStrictly S (map view xs)
rises-viewed R S view tied [] h = refl
rises-viewed R S view tied (x ∷ xs) h =
    and_from _ _ (below_viewed R S view tied x xs (sorted_head R x xs h)) (rises-viewed R S view tied xs (sorted_tail R x xs h))

-- ---- the keys of a map rise

pub true_from_T : (b : Bool) → T b → b ≡ true
true_from_T true h = refl
true_from_T false h = absurd h

below_keys : {K X : Type 0} (R : K → K → Ordering) (x : K) (es : List (K × X))
    → below_all R x es ≡ below_all R x (tagged (map (λ e. e.0) es))
below_keys R x [] = refl
below_keys R x (e ∷ es) = ap (λ b. is_lt (R x e.0) && b) (below_keys R x es)

sorted_keys : {K X : Type 0} (R : K → K → Ordering) (es : List (K × X)) → is_sorted R es ≡ is_sorted R (tagged (map (λ e. e.0) es))
sorted_keys R [] = refl
sorted_keys R (e ∷ es) = λ i. below_keys R e.0 es i && sorted_keys R es i

pub rises-keys : {K X : Type 0} {R : K → K → Ordering} (m : FinMap R X) → RisesStrictly R (keys m)
rises-keys {R = R} m = sym (sorted_keys R (entries m)) ∙ true_from_T (is_sorted R (entries m)) (entries_sorted m)

-- ---- the word `in_order`

tagged-insert_key : {K : Type 0} (R : K → K → Ordering) (ks : List K) (k : K) → tagged (insert_key R ks k) ≡ put R k tt (tagged ks)
tagged-insert_key R [] k = refl
tagged-insert_key R (x ∷ xs) k =
    elim (R k x)
    as (λ r. tagged (match_ordering r (k ∷ x ∷ xs) (x ∷ xs) (x ∷ insert_key R xs k))
    ≡ by_order r ((k, tt) ∷ (x, tt) ∷ tagged xs) ((x, tt) ∷ tagged xs) ((x, tt) ∷ put R k tt (tagged xs))) [
      | Less ↦ refl
      | Equal ↦ refl
      | Greater ↦ ap (λ es. (x, tt) ∷ es) (tagged-insert_key R xs k)
    ]

rises-in_order : {K : Type 0} {R : K → K → Ordering} → IsTotalOrder R → (xs : List K) → RisesStrictly R (in_order R xs)
rises-in_order o [] = refl
rises-in_order {R = R} o (x ∷ xs) =
    let put_in = is_sorted-put R o x tt (tagged (in_order R xs)) (subst T (sym (rises-in_order o xs)) tt) in
    ap (is_sorted R) (tagged-insert_key R (in_order R xs) x) ∙ true_from_T (is_sorted R (put R x tt (tagged (in_order R xs)))) put_in

pub or_twice : (a b : Bool) → (a || b) ≡ (a || (a || b))
or_twice true b = refl
or_twice false b = refl

pub or_turned : (a b c : Bool) → (a || (b || c)) ≡ (b || (a || c))
or_turned a b c = sym (or_assoc a b c) ∙ ap (λ ab. ab || c) (or_comm a b) ∙ or_assoc b a c

any-insert_key : {K : Type 0} {R : K → K → Ordering} → IsAntisymmetric R → (test : K → Bool) (ks : List K) (k : K)
    → list_any test (insert_key R ks k) ≡ (test k || list_any test ks)
any-insert_key same test [] k = refl
any-insert_key {R = R} same test (x ∷ xs) k =
    elim (R k x)
    as (λ r. R k x ≡ r → list_any test (match_ordering r (k ∷ x ∷ xs) (x ∷ xs) (x ∷ insert_key R xs k))
    ≡ (test k || (test x || list_any test xs))) [
      | Less ↦ λ _. refl
      | Equal ↦ λ tie. or_twice (test x) (list_any test xs) ∙ ap (λ y. test y || (test x || list_any test xs)) (sym (same k x tie))
      | Greater ↦ λ _. ap (λ b. test x || b) (any-insert_key same test xs k) ∙ or_turned (test x) (test k) (list_any test xs)
    ] refl

-- a test passes at the same items
pub any-in_order : {K : Type 0} {R : K → K → Ordering} → IsAntisymmetric R → (test : K → Bool) (xs : List K)
    → list_any test (in_order R xs) ≡ list_any test xs
any-in_order same test [] = refl
any-in_order {R = R} same test (x ∷ xs) = any-insert_key same test (in_order R xs) x ∙ ap (λ b. test x || b) (any-in_order same test xs)

pub sorted_in_order : {K : Type 0} {R : K → K → Ordering} → IsTotalOrder R → (xs : List K) → IsStrictlySortedBy R (in_order R xs)
sorted_in_order {R = R} o xs = sorted_from_rises R (in_order R xs) (rises-in_order o xs)

-- a sorted list that has the same items
pub in_order_is : {K : Type 0} {R : K → K → Ordering} → IsTotalOrder R → IsAntisymmetric R → (xs ys : List K) → IsStrictlySortedBy R ys
    → ((test : K → Bool) → list_any test ys ≡ list_any test xs) → ys ≡ in_order R xs
in_order_is {R = R} o same xs ys up alike =
    same_rising o same ys (in_order R xs) (rises_from_sorted R ys up) (rises-in_order o xs)
    (λ q. alike (eq_by_cmp R q) ∙ sym (any-in_order same (eq_by_cmp R q) xs))

below_any : {K : Type 0} (R : K → K → Ordering) (x : K) (ys : List K)
    → below_all R x (tagged ys) ≡ not (list_any (λ y. not (is_lt (R x y))) ys)
below_any R x [] = refl
below_any R x (y ∷ ys) =
    elim (is_lt (R x y)) as (λ b. (b && below_all R x (tagged ys)) ≡ not (not b || list_any (λ z. not (is_lt (R x z))) ys)) [
      | true ↦ below_any R x ys
      | false ↦ refl
    ]

-- what is below each item of a list is below each item in order
pub below-in_order : {K : Type 0} {R : K → K → Ordering} → IsAntisymmetric R → (x : K) (ys : List K)
    → AllByRecursion (λ y. R x y ≡ Less) ys → AllByRecursion (λ y. R x y ≡ Less) (in_order R ys)
below-in_order {R = R} same x ys h =
    let kept = ap not (any-in_order same (λ y. not (is_lt (R x y))) ys) in
    below_rises R x (in_order R ys) (below_any R x (in_order R ys) ∙ kept ∙ sym (below_any R x ys) ∙ rises_below R x ys h)

-- two lists with the same items
pub same_in_order : {K : Type 0} {R : K → K → Ordering} → IsTotalOrder R → IsAntisymmetric R → (xs ys : List K)
    → ((test : K → Bool) → list_any test xs ≡ list_any test ys) → in_order R xs ≡ in_order R ys
same_in_order o same xs ys alike = in_order_is o same ys _ (sorted_in_order o xs) (λ test. any-in_order same test xs ∙ alike test)
