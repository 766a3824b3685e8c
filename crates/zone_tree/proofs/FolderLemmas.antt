-- Names in byte order that begin with a front stand together, from the first that is no less than it on.
use Rattle.std.proofs.{Common.{◌≡◌, ℕ, zero, suc, ◌<◌, ◌≤◌, Bool, true, false, List, [], ◌∷◌, ◌++◌, length, map, drop, get_or, refl, sym, ap, ◌∙◌, arith}, lemmas.Cmp.{nat_list_cmp_total}, Math.Bool.{or-false}, lemmas.Bool.{and_parts, false_from_ne_true}}
use Rattle.std.proofs.lemmas.{Bool.Decides.{Decides-eqb}, Slice.Eq.{starts_is}}
use Rattle.std.specs.{Prelude.{◌||◌, nat_eq, slice_get}, FinMap.Entries.{below_all}, List.{list_any, starts_with}, List.Sorted.{IsPartitionPoint}, Option.{option_map_or}, Ordering.{is_lt, nat_cmp, ordering_then}, declared.cmp.Ordering.{Ordering}}
use Rattle.std.specs.{declared.cmp.Ordering.TheVariants.{Less, Equal, Greater}, Cmp.{nat_cmp_is}, FinMap.{nat_cmp-IsAntisymmetric}}
use Rattle.basics.specs.{InOrderLaws.{RisesStrictly, tagged, less}, Keyed.{text_cmp}}

abbrev pub begins : List ℕ → List ℕ → Bool
begins front name = starts_with nat_eq name front

front_of : (name front : List ℕ) → begins front name ≡ true → name ≡ front ++ drop (length front) name
front_of name front h = (starts_is Decides-eqb name front (begins front name) refl).0 h

has_front : (name front rest : List ℕ) → name ≡ front ++ rest → begins front name ≡ true
has_front name front rest h = (starts_is Decides-eqb name front (begins front name) refl).1 rest h

same_byte : (c : ℕ) → nat_cmp c c ≡ Equal
same_byte c = sym (nat_cmp_is c c Equal refl)

-- what goes on from a front is no less than it
no_less : (front rest : List ℕ) → is_lt (text_cmp (front ++ rest) front) ≡ false
no_less [] [] = refl
no_less [] (c ∷ rest) = refl
no_less (c ∷ front) rest = ap (λ o. is_lt (ordering_then o (text_cmp (front ++ rest) front))) (same_byte c) ∙ no_less front rest

-- what lies between a front and what goes on from it goes on from it
between : (front rest name : List ℕ) → is_lt (text_cmp name front) ≡ false → text_cmp name (front ++ rest) ≡ Less → begins front name ≡ true
between [] rest name low high = has_front name [] name refl
between (c ∷ front) rest [] low high = absurd (cc)
between (c ∷ front) rest (d ∷ name) low high = by_byte (nat_cmp d c) refl (between front rest name)
  where
    by_byte : (o : Ordering) → nat_cmp d c ≡ o
        → (is_lt (text_cmp name front) ≡ false → text_cmp name (front ++ rest) ≡ Less → begins front name ≡ true)
        → begins (c ∷ front) (d ∷ name) ≡ true
    by_byte Less e more = absurd (cc)
    by_byte Greater e more = absurd (cc)
    by_byte Equal e more =
        let begun = more (ap (λ o. is_lt (ordering_then o (text_cmp name front))) (sym e) ∙ low)
        (ap (λ o. ordering_then o (text_cmp name (front ++ rest))) (sym e) ∙ high) in
        has_front (d ∷ name) (c ∷ front) (drop (length front) name) (λ i. nat_cmp-IsAntisymmetric d c e i ∷ front_of name front begun i)

-- what is less than a front doesn't begin with it
less_not : (name front : List ℕ) → is_lt (text_cmp name front) ≡ true → begins front name ≡ false
less_not name front low =
    false_from_ne_true (begins front name) (λ b.
    let e = front_of name front b in
    let n = ap (λ x. is_lt (text_cmp x front)) e ∙ no_less front (drop (length front) name) in absurd (cc))

-- nothing above a name that is no less than a front and doesn't begin with it begins with it
past_not : (front name other : List ℕ) → is_lt (text_cmp name front) ≡ false → begins front name ≡ false → text_cmp name other ≡ Less
    → begins front other ≡ false
past_not front name other low other_front high =
    false_from_ne_true (begins front other) (λ b.
    let e = front_of other front b in
    let yes = between front (drop (length front) other) name low (ap (text_cmp name) (sym e) ∙ high) in absurd (cc))

none_past : (front name : List ℕ) (names : List (List ℕ)) → is_lt (text_cmp name front) ≡ false → begins front name ≡ false
    → below_all text_cmp name (tagged names) ≡ true → list_any (begins front) names ≡ false
none_past front name [] low differs above = refl
none_past front name (other ∷ names) low differs above =
    let parts = and_parts (is_lt (text_cmp name other)) (below_all text_cmp name (tagged names)) above in
    (λ i. past_not front name other low differs (less (text_cmp name other) parts.0) i || none_past front name names low differs parts.1 i)

abbrev pub is_below : List ℕ → List ℕ → Bool
is_below front name = is_lt (text_cmp name front)

-- the name at a later place is greater
below_at : {X : Type 0} (f : X → List ℕ) (x : X) (xs : List X) (j : ℕ) (d : X) → below_all text_cmp (f x) (tagged (map f xs)) ≡ true
    → j < length xs → text_cmp (f x) (f (get_or xs j d)) ≡ Less
below_at f x [] j d h l = absurd (omega (arith, l))
below_at f x (y ∷ ys) zero d h l = less (text_cmp (f x) (f y)) (and_parts (is_lt (text_cmp (f x) (f y))) _ h).0
below_at f x (y ∷ ys) (suc j) d h l = below_at f x ys j d (and_parts (is_lt (text_cmp (f x) (f y))) _ h).1 (omega (arith, l))

-- no name that is less than the front comes after one that isn't
pub parted : {X : Type 0} (f : X → List ℕ) (front : List ℕ) (xs : List X) → RisesStrictly text_cmp (map f xs) → (i j : ℕ) (d : X) → i ≤ j
    → j < length xs → is_below front (f (get_or xs j d)) ≡ true → is_below front (f (get_or xs i d)) ≡ true
parted f front [] up i j d l m h = absurd (omega (arith, m))
parted f front (x ∷ xs) up zero zero d l m h = h
parted f front (x ∷ xs) up zero (suc j) d l m h =
    let before = below_at f x xs j d (and_parts (below_all text_cmp (f x) (tagged (map f xs))) _ up).0 (omega (arith, m)) in
    ap is_lt (nat_list_cmp_total.trans (f x) (f (get_or xs j d)) front before (less (text_cmp (f (get_or xs j d)) front) h))
parted f front (x ∷ xs) up (suc i) zero d l m h = absurd (omega (arith, l))
parted f front (x ∷ xs) up (suc i) (suc j) d l m h =
    parted f front xs (and_parts (below_all text_cmp (f x) (tagged (map f xs))) _ up).1 i j d (omega (arith, l)) (omega (arith, m)) h

-- the first name that is no less than the front tells whether some name begins with it
pub first_decides : {X : Type 0} (f : X → List ℕ) (front : List ℕ) (xs : List X) (i : ℕ) → RisesStrictly text_cmp (map f xs)
    → IsPartitionPoint (λ x. is_below front (f x) ≡ true) (λ x. is_below front (f x) ≡ false) xs i
    → option_map_or (λ x. begins front (f x)) (slice_get xs i) false ≡ list_any (begins front) (map f xs)
first_decides f front [] i up at = refl
first_decides f front (x ∷ xs) zero up at = by_first (begins front (f x)) refl
  where
    by_first : (b : Bool) → begins front (f x) ≡ b → begins front (f x) ≡ (begins front (f x) || list_any (begins front) (map f xs))
    by_first true e = e ∙ ap (λ b. b || list_any (begins front) (map f xs)) (sym e)
    by_first false e =
        sym (or-false (begins front (f x)))
        ∙ ap (λ b. begins front (f x) || b)
        (sym (none_past front (f x) (map f xs) (at.1 0 x (omega arith) (omega arith)) e
        (and_parts (below_all text_cmp (f x) (tagged (map f xs))) _ up).0))
first_decides f front (x ∷ xs) (suc i) up at =
    first_decides f front xs i (and_parts (below_all text_cmp (f x) (tagged (map f xs))) _ up).1
    (λ k d l m. at.0 (suc k) d (omega arith) (omega (arith, m)), λ k d l m. at.1 (suc k) d (omega (arith, l)) (omega (arith, m)))
    ∙ ap (λ b. b || list_any (begins front) (map f xs)) (sym (less_not (f x) front (at.0 0 x (omega arith) (omega arith))))
