-- What is put so far, and what is left.
use Rattle.std.proofs.Common.{◌≡◌, ℕ, ◌+◌, ◌<◌, ◌≤◌, List, [], ◌∷◌, ◌++◌, length, drop, map, get_or, refl, sym, ap, subst, ◌∙◌, append_assoc, append-nil, Bool, true, false, not, cond, Some, None, Bor, position, bytes_eq, ◌||◌, arith, length-append, lt-ltb}
use Rattle.std.proofs.lemmas.Bool.{false≢true, cond-true}
use borrow.Author.Count.{below_more}
use Rattle.zone_tzif_core.{proofs.DistinctLemmas.{any_seen}, specs.Shown.{names_seen}, specs.Tzif.{name_place, name_bytes}}
use Rattle.std.{proofs.lemmas.Option.{cond_some, none-some}, proofs.lemmas.List.{drop_more, drop_all, get_or-map, length-map}, specs.List.{flat_map, list_any, position_or_len}}

-- the bytes so far, and those that the items left give, are what all give
abbrev pub PutSoFar : {A B : Type 0} → (B → A) → (A → List ℕ) → List ℕ → List B → ℕ → List ℕ → Type 0
PutSoFar view bytes begun all i so_far = so_far ++ flat_map bytes (map view (drop i all)) ≡ begun ++ flat_map bytes (map view all)

pub put_kept : {A B : Type 0} (view : B → A) (bytes : A → List ℕ) (begun : List ℕ) (all : List B) (i : ℕ) (so_far grown : List ℕ) (x : B) → i < length all → x ≡ get_or all i x → grown ≡ so_far ++ bytes (view x) → PutSoFar view bytes begun all i so_far → PutSoFar view bytes begun all (i + 1) grown
put_kept view bytes begun all i so_far grown x within at more is =
    let front = drop_more all i x within ∙ ap (λ y. y ∷ drop (i + 1) all) (sym at) in
    ap (λ l. l ++ flat_map bytes (map view (drop (i + 1) all))) more
    ∙ append_assoc so_far (bytes (view x)) (flat_map bytes (map view (drop (i + 1) all)))
    ∙ sym (ap (λ l. so_far ++ flat_map bytes (map view l)) front) ∙ is

-- the same, where the item is read at its place
pub put_kept_at : {A B : Type 0} (view : B → A) (bytes : A → List ℕ) (begun : List ℕ) (all : List B) (i : ℕ) (so_far grown : List ℕ) (d : B) → i < length all → grown ≡ so_far ++ bytes (view (get_or all i d)) → PutSoFar view bytes begun all i so_far → PutSoFar view bytes begun all (i + 1) grown
put_kept_at view bytes begun all i so_far grown d within more is =
    let rest = flat_map bytes (map view (drop (i + 1) all)) in
    ap (λ l. l ++ rest) more ∙ append_assoc so_far (bytes (view (get_or all i d))) rest
    ∙ sym (ap (λ l. so_far ++ flat_map bytes (map view l)) (drop_more all i d within)) ∙ is

pub put_end : {A B : Type 0} (view : B → A) (bytes : A → List ℕ) (begun : List ℕ) (all : List B) (i : ℕ) (so_far : List ℕ) → length all ≤ i → PutSoFar view bytes begun all i so_far → so_far ≡ begun ++ flat_map bytes (map view all)
put_end view bytes begun all i so_far over is = sym (append-nil so_far) ∙ sym (ap (λ l. so_far ++ flat_map bytes (map view l)) (drop_all i all over)) ∙ is

-- the number of the place that is found
place_seen : {A B : Type 0} (test : A → Bool) (view : B → A) (items : List B) → position_or_len test (map view items) ≡ position_or_len (λ item. test (view item)) items
place_seen test view [] = refl
place_seen test view (item ∷ items) = ap (λ n. cond (not (test (view item))) (1 + n) 0) (place_seen test view items)

pub number_found : {A B : Type 0} (test : A → Bool) (view : B → A) (items : List B) (i : ℕ) → Some i ≡ position (λ item. test (view item)) items → i ≡ position_or_len test (map view items)
number_found test view items i e = sym (cond_some _ _ i (sym e)).1 ∙ sym (place_seen test view items)

-- where there is one, the place is inside
inside : {B : Type 0} (test : B → Bool) (items : List B) → list_any test items ≡ true → position_or_len test items < length items
inside test [] there = absurd (false≢true there)
inside test (item ∷ items) there = by_test (test item) there (inside test items)
  where
    by_test : (t : Bool) → (t || list_any test items) ≡ true → (list_any test items ≡ true → position_or_len test items < length items) → cond (not t) (1 + position_or_len test items) 0 < length (item ∷ items)
    by_test true there more = omega arith
    by_test false there more = let rest = more there in omega arith

pub number_not_found : {A B : Type 0} (test : A → Bool) (view : B → A) (items : List B) → None ≡ position (λ item. test (view item)) items → list_any test (map view items) ≡ true → ⊥
number_not_found test view items e there =
    let here : list_any (λ item. test (view item)) items ≡ true = sym (any_seen test view items) ∙ there in
    let within = lt-ltb (position_or_len (λ item. test (view item)) items) (length items) (inside (λ item. test (view item)) items here) in
    none-some _ (e ∙ cond-true _ _ _ within)

-- what an item shows stands at its place
pub seen_at : {A B : Type 0} (view : B → A) (all : List B) (i : ℕ) (x : B) → i < length all → x ≡ get_or all i x → get_or (map view all) i (view x) ≡ view x
seen_at view all i x within at = get_or-map view all i x (view x) within ∙ ap view (sym at)

pub seen_long : {A B : Type 0} (view : B → A) (all : List B) (i : ℕ) → i < length all → i < length (map view all)
seen_long view all i within = let long : length (map view all) ≡ length all = length-map _ _ in omega (arith, long)

-- the places so far, and those of the names that are left
pub record PlaceSoFar (names : List (Bor (List ℕ))) (name : List ℕ) (i place : ℕ) : Type 0 where
  pub sum : place + name_place (names_seen (drop i names)) name ≡ name_place (names_seen names) name
  pub bound : place + length (name_bytes (names_seen (drop i names))) ≡ length (name_bytes (names_seen names))

next_name : (names : List (Bor (List ℕ))) (i : ℕ) (d : Bor (List ℕ)) → i < length names → names_seen (drop i names) ≡ (get_or names i d).now ∷ names_seen (drop (i + 1) names)
next_name names i d within = ap names_seen (drop_more names i d within)

pub place_kept : (names : List (Bor (List ℕ))) (name : List ℕ) (i place : ℕ) (d : Bor (List ℕ)) → i < length names → false ≡ bytes_eq name (get_or names i d).now → PlaceSoFar names name i place → PlaceSoFar names name (i + 1) (place + (length (get_or names i d).now + 1))
unfolding name_place name_bytes
place_kept names name i place d within differs is =
    let other = (get_or names i d).now in
    let rest = names_seen (drop (i + 1) names) in
    let next = next_name names i d within in
    let place_is : name_place (names_seen (drop i names)) name ≡ length other + 1 + name_place rest name = ap (λ l. name_place l name) next ∙ ap (λ t. cond t 0 (length other + 1 + name_place rest name)) (sym differs) in
    let long : length (name_bytes (names_seen (drop i names))) ≡ length other + 1 + length (name_bytes rest) = ap (λ l. length (name_bytes l)) next ∙ length-append (other ++ 0 ∷ []) (name_bytes rest) ∙ ap (λ n. n + length (name_bytes rest)) (length-append other (0 ∷ [])) in
    record {
      sum = omega (arith, is.sum, place_is);
      bound = omega (arith, is.bound, long);
    }

pub place_found : (names : List (Bor (List ℕ))) (name : List ℕ) (i place : ℕ) (d : Bor (List ℕ)) → i < length names → true ≡ bytes_eq name (get_or names i d).now → PlaceSoFar names name i place → place ≡ name_place (names_seen names) name
unfolding name_place
place_found names name i place d within same is =
    let other = (get_or names i d).now in
    let rest = names_seen (drop (i + 1) names) in
    let here : name_place (names_seen (drop i names)) name ≡ 0 = ap (λ l. name_place l name) (next_name names i d within) ∙ ap (λ t. cond t 0 (length other + 1 + name_place rest name)) (sym same) in
    omega (arith, is.sum, here)

pub place_end : (names : List (Bor (List ℕ))) (name : List ℕ) (i place : ℕ) → length names ≤ i → PlaceSoFar names name i place → place ≡ name_place (names_seen names) name
unfolding name_place
place_end names name i place over is =
    let here : name_place (names_seen (drop i names)) name ≡ 0 = ap (λ l. name_place (names_seen l) name) (drop_all i names over) in
    omega (arith, is.sum, here)

-- what holds of each item so far, and of the next one
pub each_kept : {A B : Type 0} (P : A → Type 0) (view : B → A) (all : List B) (i : ℕ) (x : B) → i < length all → x ≡ get_or all i x → P (view x)
    → ((k : ℕ) → k < i → (d : A) → P (get_or (map view all) k d)) → (k : ℕ) → k < i + 1 → (d : A) → P (get_or (map view all) k d)
each_kept {A} P view all i x within at here before =
    below_more (λ k. (d : A) → P (get_or (map view all) k d)) i before
    (λ d. subst P (sym (get_or-map view all i x d within)) (subst (λ y. P (view y)) at here))
