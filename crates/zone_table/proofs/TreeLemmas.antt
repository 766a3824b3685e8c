-- The hierarchy of children in order, run by run.
use Rattle.std.proofs.{Common.{◌≡◌, ℕ, zero, suc, ◌-◌, ◌<◌, Bool, true, false, cond, List, [], ◌∷◌, ◌++◌, map, length, get_or, refl, sym, ap, ◌∙◌, subst, arith, length-append}, lemmas.List.{append-nil, map-append, get_or_append_left}}
use Rattle.std.proofs.{lemmas.List.Elements.{filter-append}, lemmas.List.Folds.{list_any-append}, lemmas.List.Sorted.{list_any-IsPermutation}, lemmas.Map.Keys.{sorted_head, sorted_tail}, lemmas.Map.Text.{is_eq-slice_cmp}, Math.Bool.{or_assoc}}
use Rattle.std.proofs.Math.{Numerals.{add-one}, Seq.{get_or-append_seam}}
use Rattle.std.specs.{Borrow.{Bor}, Prelude.{◌||◌, ◌&&◌}, declared.cmp.Ordering.{Ordering}, declared.cmp.Ordering.TheVariants.{Less, Equal, Greater}, Cmp.{IsTotalOrder, on_total, then_total, tied_itself}, Cmp.Lexicographic.{nat_list_cmp_total, bytes_decides}}
use Rattle.std.specs.{FinMap.{IsAntisymmetric, slice_cmp-IsAntisymmetric, nat_cmp-IsAntisymmetric}, List.{AllByRecursion, AllAdjacentBelow, IsChunkByPrefix, filter, flat_map, list_any}, List.Sorted.{IsPermutation, IsStrictlySortedBy}}
use Rattle.std.specs.{Ordering.{is_eq, ordering_reverse, ordering_then}, Str.{bytes_eq}}
use Rattle.basics.specs.{LogicLaws.{every_weaker}, InOrder.{in_order}, Keyed.{text_cmp}, InOrderLaws.{in_order_is, same_in_order, sorted_in_order, any-in_order, below-in_order, or_twice}}
use Rattle.zone_table.specs.{NameTree.{ChildValue, submodule, time_zone, child_cmp, EntryValue, children_in, children_of, tree_of}, Shown.{child_value}, Placed.{placed_cmp, placed_value}, declared.structure.Child.{Child}}

-- ---- the orders

pub text_same : IsAntisymmetric text_cmp
text_same = slice_cmp-IsAntisymmetric nat_cmp-IsAntisymmetric

child_antisymm : (x y : ChildValue) → child_cmp x y ≡ ordering_reverse (child_cmp y x)
child_antisymm (submodule a) (submodule b) = nat_list_cmp_total.antisymm a b
child_antisymm (submodule a) (time_zone b) = refl
child_antisymm (time_zone a) (submodule b) = refl
child_antisymm (time_zone a) (time_zone b) = nat_list_cmp_total.antisymm a b

child_trans : (x y z : ChildValue) → child_cmp x y ≡ Less → child_cmp y z ≡ Less → child_cmp x z ≡ Less
child_trans (submodule a) (submodule b) (submodule c) p q = nat_list_cmp_total.trans a b c p q
child_trans (submodule a) y (time_zone c) p q = refl
child_trans (submodule a) (time_zone b) (submodule c) p q = cc
child_trans (time_zone a) (submodule b) z p q = cc
child_trans (time_zone a) (time_zone b) (submodule c) p q = cc
child_trans (time_zone a) (time_zone b) (time_zone c) p q = nat_list_cmp_total.trans a b c p q

child_congr : (x y z : ChildValue) → child_cmp x y ≡ Equal → child_cmp x z ≡ child_cmp y z
child_congr (submodule a) (submodule b) (submodule c) p = nat_list_cmp_total.congr a b c p
child_congr (submodule a) (submodule b) (time_zone c) p = refl
child_congr (submodule a) (time_zone b) z p = cc
child_congr (time_zone a) (submodule b) z p = cc
child_congr (time_zone a) (time_zone b) (submodule c) p = refl
child_congr (time_zone a) (time_zone b) (time_zone c) p = nat_list_cmp_total.congr a b c p

child_total : IsTotalOrder child_cmp
child_total = record { antisymm = child_antisymm; trans = child_trans; congr = child_congr }

child_same : IsAntisymmetric child_cmp
child_same (submodule a) (submodule b) e = ap submodule (text_same a b e)
child_same (submodule a) (time_zone b) e = cc
child_same (time_zone a) (submodule b) e = cc
child_same (time_zone a) (time_zone b) e = ap time_zone (text_same a b e)

pub placed_total : IsTotalOrder placed_cmp
placed_total =
    then_total (on_total (λ (p : List ℕ × ChildValue). p.0) nat_list_cmp_total) (on_total (λ (p : List ℕ × ChildValue). p.1) child_total)

first_ties : (a b : Ordering) → ordering_then a b ≡ Equal → a ≡ Equal
first_ties Less b e = e
first_ties Equal b e = refl
first_ties Greater b e = e

then_ties : (a b : Ordering) → ordering_then a b ≡ Equal → b ≡ Equal
then_ties Less b e = cc
then_ties Equal b e = e
then_ties Greater b e = cc

pub placed_same : IsAntisymmetric placed_cmp
placed_same p q e = λ i. (text_same p.0 q.0 (first_ties _ _ e) i, child_same p.1 q.1 (then_ties (text_cmp p.0 q.0) _ e) i)

-- ---- the same children make the same hierarchy

pub any-map : {X Y : Type 0} (test : Y → Bool) (f : X → Y) (xs : List X) → list_any test (map f xs) ≡ list_any (λ x. test (f x)) xs
any-map test f [] = refl
any-map test f (x ∷ xs) = ap (λ b. test (f x) || b) (any-map test f xs)

any-children : (test : ChildValue → Bool) (part : List ℕ) (ps : List (List ℕ × ChildValue))
    → list_any test (children_of part ps) ≡ list_any (λ p. bytes_eq part p.0 && test p.1) ps
any-children test part [] = refl
any-children test part (p ∷ ps) =
    elim (bytes_eq part p.0)
    as (λ b. list_any test (map (λ q. q.1) (cond b (p ∷ filter (λ q. bytes_eq part q.0) ps) (filter (λ q. bytes_eq part q.0) ps)))
    ≡ ((b && test p.1) || list_any (λ q. bytes_eq part q.0 && test q.1) ps)) [
      | true ↦ ap (λ b. test p.1 || b) (any-children test part ps)
      | false ↦ any-children test part ps
    ]

pub same_tree : (ps qs : List (List ℕ × ChildValue)) → ((test : List ℕ × ChildValue → Bool) → list_any test ps ≡ list_any test qs)
    → tree_of ps ≡ tree_of qs
unfolding tree_of
same_tree ps qs alike =
    let parts =
    same_in_order nat_list_cmp_total text_same (map (λ p. p.0) ps) (map (λ p. p.0) qs)
    (λ test. any-map test (λ p. p.0) ps ∙ alike (λ p. test p.0) ∙ sym (any-map test (λ p. p.0) qs)) in
    let children =
    λ (part : List ℕ). same_in_order child_total child_same (children_of part ps) (children_of part qs)
    (λ test. any-children test part ps ∙ alike (λ p. bytes_eq part p.0 && test p.1) ∙ sym (any-children test part qs)) in
    λ i. map (λ part. record { name = part; children = children part i }) (parts i)

-- the same names, in another order
pub same_names : (ks ls ms ns : List (List ℕ)) → IsPermutation ks ms → IsPermutation ls ns
    → (test : List ℕ → Bool) → list_any test (ms ++ ns) ≡ list_any test (ks ++ ls)
same_names ks ls ms ns first second test =
    list_any-append test ms ns
    ∙ (λ i. sym (list_any-IsPermutation test ks ms first) i || sym (list_any-IsPermutation test ls ns second) i)
    ∙ sym (list_any-append test ks ls)

any-children_of : (test : List ℕ × ChildValue → Bool) (names : List (List ℕ))
    → list_any test (flat_map children_in names) ≡ list_any (λ name. list_any test (children_in name)) names
any-children_of test [] = refl
any-children_of test (name ∷ names) =
    list_any-append test (children_in name) (flat_map children_in names)
    ∙ ap (λ b. list_any test (children_in name) || b) (any-children_of test names)

-- names with the same items give the same children
pub same_children : (ks ls : List (List ℕ)) → ((test : List ℕ → Bool) → list_any test ks ≡ list_any test ls)
    → (test : List ℕ × ChildValue → Bool) → list_any test (flat_map children_in ks) ≡ list_any test (flat_map children_in ls)
same_children ks ls same test = any-children_of test ks ∙ same (λ name. list_any test (children_in name)) ∙ sym (any-children_of test ls)

names_of_entries : (entry : List ℕ → EntryValue) → ((part : List ℕ) → (entry part).name ≡ part) → (parts : List (List ℕ))
    → map (λ e. e.name) (map entry parts) ≡ parts
names_of_entries entry named [] = refl
names_of_entries entry named (part ∷ parts) = λ i. named part i ∷ names_of_entries entry named parts i

-- each part stands once, in order
pub names_sorted : (ps : List (List ℕ × ChildValue)) → IsStrictlySortedBy text_cmp (map (λ e. e.name) (tree_of ps))
unfolding tree_of
names_sorted ps =
    subst (IsStrictlySortedBy text_cmp)
    (sym (names_of_entries (λ part. record { name = part; children = in_order child_cmp (children_of part ps) }) (λ part. refl)
    (in_order text_cmp (map (λ p. p.0) ps))))
    (sorted_in_order nat_list_cmp_total (map (λ p. p.0) ps))

-- ---- one run of children under one part, and then the others

every_from_places : {X : Type 0} (P : X → Type 0) (xs : List X) → ((k : ℕ) (d : X) → k < length xs → P (get_or xs k d))
    → AllByRecursion P xs
every_from_places P [] h = tt
every_from_places P (x ∷ xs) h = (h 0 x (omega arith), every_from_places P xs (λ k d below. h (suc k) d (omega arith)))

-- a test that holds of each two neighbours up to n has one part up to n
one_part : {X : Type 0} (part : X → List ℕ) (xs : List X) (n : ℕ) → AllAdjacentBelow (λ x y. bytes_eq (part x) (part y) ≡ true) xs n
    → (k : ℕ) (d : X) → k < n → part (get_or xs k d) ≡ part (get_or xs 0 d)
one_part part xs n same zero d below = refl
one_part part xs n same (suc k) d below =
    let next : bytes_eq (part (get_or xs k d)) (part (get_or xs (suc k) d)) ≡ true = rw (add-one k) at (same k d (omega arith)) in
    sym ((bytes_decides (part (get_or xs k d)) (part (get_or xs (suc k) d))).0 next) ∙ one_part part xs n same k d (omega arith)

own_children : (part : List ℕ) (run : List (List ℕ × ChildValue)) → AllByRecursion (λ p. p.0 ≡ part) run
    → children_of part run ≡ map (λ p. p.1) run
own_children part [] h = refl
own_children part (p ∷ run) h =
    ap (λ b. map (λ q. q.1) (cond b (p ∷ filter (λ q. bytes_eq part q.0) run) (filter (λ q. bytes_eq part q.0) run)))
    ((bytes_decides part p.0).1 (sym h.0))
    ∙ ap (λ cs. p.1 ∷ cs) (own_children part run h.1)

no_children : (part : List ℕ) (ps : List (List ℕ × ChildValue)) → AllByRecursion (λ p. bytes_eq part p.0 ≡ false) ps
    → children_of part ps ≡ []
no_children part [] h = refl
no_children part (p ∷ ps) h =
    ap (λ b. map (λ q. q.1) (cond b (p ∷ filter (λ q. bytes_eq part q.0) ps) (filter (λ q. bytes_eq part q.0) ps))) h.0
    ∙ no_children part ps h.1

children-append : (part : List ℕ) (ps qs : List (List ℕ × ChildValue))
    → children_of part (ps ++ qs) ≡ children_of part ps ++ children_of part qs
children-append part ps qs =
    ap (map (λ p. p.1)) (filter-append (λ p. bytes_eq part p.0) ps qs)
    ∙ map-append (λ p. p.1) (filter (λ p. bytes_eq part p.0) ps) (filter (λ p. bytes_eq part p.0) qs)

apart : (a b : List ℕ) → text_cmp a b ≡ Less → bytes_eq a b ≡ false
apart a b h = sym (is_eq-slice_cmp a b) ∙ ap is_eq h

apart_back : (a b : List ℕ) → text_cmp a b ≡ Less → bytes_eq b a ≡ false
apart_back a b h = sym (is_eq-slice_cmp b a) ∙ ap is_eq (nat_list_cmp_total.antisymm b a ∙ ap ordering_reverse h)

every_map : {X Y : Type 0} (P : Y → Type 0) (f : X → Y) (xs : List X) → AllByRecursion (λ x. P (f x)) xs → AllByRecursion P (map f xs)
every_map P f [] h = tt
every_map P f (x ∷ xs) h = (h.0, every_map P f xs h.1)

every_right : {X : Type 0} (P : X → Type 0) (xs ys : List X) → AllByRecursion P (xs ++ ys) → AllByRecursion P ys
every_right P [] ys h = h
every_right P (x ∷ xs) ys h = every_right P xs ys h.1

sorted_right : {X : Type 0} (R : X → X → Ordering) (xs ys : List X) → IsStrictlySortedBy R (xs ++ ys) → IsStrictlySortedBy R ys
sorted_right R [] ys h = h
sorted_right R (x ∷ xs) ys h = sorted_right R xs ys (sorted_tail R x (xs ++ ys) h)

-- the children of one part are in order where they are in order beside it
child_below : (part : List ℕ) (p q : List ℕ × ChildValue) → p.0 ≡ part → q.0 ≡ part → placed_cmp p q ≡ Less → child_cmp p.1 q.1 ≡ Less
child_below part p q here there h =
    sym (ap (λ r. ordering_then r (child_cmp p.1 q.1)) ((λ i. text_cmp (here i) (there i)) ∙ tied_itself nat_list_cmp_total part)) ∙ h

children_below : (part : List ℕ) (p : List ℕ × ChildValue) (run others : List (List ℕ × ChildValue)) → p.0 ≡ part
    → AllByRecursion (λ q. q.0 ≡ part) run
    → AllByRecursion (λ q. placed_cmp p q ≡ Less) (run ++ others) → AllByRecursion (λ c. child_cmp p.1 c ≡ Less) (map (λ q. q.1) run)
children_below part p [] others here same h = tt
children_below part p (q ∷ run) others here same h =
    (child_below part p q here same.0 h.0, children_below part p run others here same.1 h.1)

run_sorted : (part : List ℕ) (run others : List (List ℕ × ChildValue)) → AllByRecursion (λ q. q.0 ≡ part) run
    → IsStrictlySortedBy placed_cmp (run ++ others) → IsStrictlySortedBy child_cmp (map (λ q. q.1) run)
unfolding IsStrictlySortedBy
run_sorted part [] others same h = tt
run_sorted part (p ∷ run) others same h = (children_below part p run others same.0 same.1 h.0, run_sorted part run others same.1 h.1)

-- the parts after a run
part_above : (part : List ℕ) (y q : List ℕ × ChildValue) → text_cmp part y.0 ≡ Less → placed_cmp y q ≡ Less → text_cmp part q.0 ≡ Less
part_above part y q h below =
    elim (text_cmp y.0 q.0) as (λ r. text_cmp y.0 q.0 ≡ r → ordering_then r (child_cmp y.1 q.1) ≡ Less → text_cmp part q.0 ≡ Less) [
      | Less ↦ λ e _. nat_list_cmp_total.trans part y.0 q.0 h e
      | Equal ↦ λ e _. ap (text_cmp part) (sym (text_same y.0 q.0 e)) ∙ h
      | Greater ↦ λ _ e. cc
    ] refl below

first_above : (p y : List ℕ × ChildValue) → bytes_eq p.0 y.0 ≡ false → placed_cmp p y ≡ Less → text_cmp p.0 y.0 ≡ Less
first_above p y differ below =
    elim (text_cmp p.0 y.0) as (λ r. text_cmp p.0 y.0 ≡ r → ordering_then r (child_cmp p.1 y.1) ≡ Less → text_cmp p.0 y.0 ≡ Less) [
      | Less ↦ λ e _. e
      | Equal ↦ λ e _. let same : is_eq (text_cmp p.0 y.0) ≡ false = is_eq-slice_cmp p.0 y.0 ∙ differ in cc
      | Greater ↦ λ _ e. cc
    ] refl below

others_above : (p : List ℕ × ChildValue) (run others : List (List ℕ × ChildValue)) → IsStrictlySortedBy placed_cmp (p ∷ run ++ others)
    → ((y : List ℕ × ChildValue) (ys : List (List ℕ × ChildValue)) → others ≡ y ∷ ys → bytes_eq p.0 y.0 ≡ false)
    → AllByRecursion (λ q. text_cmp p.0 q.0 ≡ Less) others
others_above p run [] up differ = tt
others_above p run (y ∷ ys) up differ =
    let next =
    first_above p y (differ y ys refl)
    (every_right (λ q. placed_cmp p q ≡ Less) run (y ∷ ys) (sorted_head placed_cmp p (run ++ y ∷ ys) up)).0 in (
      next,
      every_weaker (λ q. placed_cmp y q ≡ Less) (λ q. text_cmp p.0 q.0 ≡ Less) (λ q below. part_above p.0 y q next below) ys
          (sorted_head placed_cmp y ys (sorted_right placed_cmp (p ∷ run) (y ∷ ys) up)),
    )

any_of_run : (test : List ℕ → Bool) (part : List ℕ) (run : List (List ℕ × ChildValue)) → AllByRecursion (λ q. q.0 ≡ part) run
    → (test part || list_any test (map (λ q. q.0) run)) ≡ test part
any_of_run test part [] h = elim (test part) as (λ b. (b || false) ≡ b) [ true ↦ refl | false ↦ refl ]
any_of_run test part (p ∷ run) h =
    ap (λ q. test part || (test q || list_any test (map (λ r. r.0) run))) h.0 ∙ sym (or_twice (test part) _)
    ∙ any_of_run test part run h.1

parts_of_run : (p : List ℕ × ChildValue) (run others : List (List ℕ × ChildValue)) → AllByRecursion (λ q. q.0 ≡ p.0) run
    → AllByRecursion (λ q. text_cmp p.0 q.0 ≡ Less) others
    → p.0 ∷ in_order text_cmp (map (λ q. q.0) others) ≡ in_order text_cmp (map (λ q. q.0) (p ∷ run ++ others))
unfolding IsStrictlySortedBy
parts_of_run p run others same above =
    in_order_is nat_list_cmp_total text_same (map (λ q. q.0) (p ∷ run ++ others)) (p.0 ∷ in_order text_cmp (map (λ q. q.0) others)) (
      below-in_order text_same p.0 (map (λ q. q.0) others)
          (every_map (λ part. text_cmp p.0 part ≡ Less) (λ q. q.0) others above),
      sorted_in_order nat_list_cmp_total
          (map (λ q. q.0) others),
    )
    (λ test. ap (λ b. test p.0 || b) (any-in_order text_same test (map (λ q. q.0) others))
    ∙ ap (λ b. b || list_any test (map (λ q. q.0) others)) (sym (any_of_run test p.0 run same))
    ∙ or_assoc (test p.0) _ _
    ∙ ap (λ b. test p.0 || b)
    (sym (list_any-append test (map (λ q. q.0) run) (map (λ q. q.0) others))
    ∙ ap (list_any test) (sym (map-append (λ q. q.0) run others))))

-- the entries of other parts do not see the run
entries_apart : (f g : List ℕ → EntryValue) (part : List ℕ) (parts : List (List ℕ))
    → ((other : List ℕ) → text_cmp part other ≡ Less → f other ≡ g other) → AllByRecursion (λ other. text_cmp part other ≡ Less) parts
    → map f parts ≡ map g parts
entries_apart f g part [] alike h = refl
entries_apart f g part (other ∷ parts) alike h = λ i. alike other h.0 i ∷ entries_apart f g part parts alike h.1 i

run_children : (p : List ℕ × ChildValue) (run others : List (List ℕ × ChildValue)) → AllByRecursion (λ q. q.0 ≡ p.0) run
    → AllByRecursion (λ q. text_cmp p.0 q.0 ≡ Less) others
    → IsStrictlySortedBy placed_cmp (p ∷ run ++ others)
    → in_order child_cmp (children_of p.0 (p ∷ run ++ others)) ≡ map (λ q. q.1) (p ∷ run)
run_children p run others same above up =
    let own = own_children p.0 (p ∷ run) (refl, same) in
    let none =
    no_children p.0 others
    (every_weaker (λ q. text_cmp p.0 q.0 ≡ Less) (λ q. bytes_eq p.0 q.0 ≡ false) (λ q h. apart p.0 q.0 h) others above) in
    ap (in_order child_cmp) (children-append p.0 (p ∷ run) others ∙ (λ i. own i ++ none i) ∙ append-nil (map (λ q. q.1) (p ∷ run)))
    ∙ sym (in_order_is child_total child_same (map (λ q. q.1) (p ∷ run)) (map (λ q. q.1) (p ∷ run))
    (run_sorted p.0 (p ∷ run) others (refl, same) up) (λ test. refl))

other_children : (p : List ℕ × ChildValue) (run others : List (List ℕ × ChildValue)) → AllByRecursion (λ q. q.0 ≡ p.0) run
    → (other : List ℕ) → text_cmp p.0 other ≡ Less
    → children_of other (p ∷ run ++ others) ≡ children_of other others
other_children p run others same other above =
    let differ = λ (q : List ℕ × ChildValue) (e : q.0 ≡ p.0). ap (bytes_eq other) e ∙ apart_back p.0 other above in
    children-append other (p ∷ run) others
    ∙ ap (λ cs. cs ++ children_of other others)
    (no_children other (p ∷ run) (differ p refl, every_weaker (λ q. q.0 ≡ p.0) (λ q. bytes_eq other q.0 ≡ false) differ run same))

pub run_first : (p : List ℕ × ChildValue) (run others : List (List ℕ × ChildValue)) → AllByRecursion (λ q. q.0 ≡ p.0) run
    → AllByRecursion (λ q. text_cmp p.0 q.0 ≡ Less) others
    → IsStrictlySortedBy placed_cmp (p ∷ run ++ others)
    → tree_of (p ∷ run ++ others) ≡ record { name = p.0; children = map (λ q. q.1) (p ∷ run) } ∷ tree_of others
unfolding tree_of
run_first p run others same above up =
    let entry =
    λ (ps : List (List ℕ × ChildValue)) (part : List ℕ). let e : EntryValue =
    record { name = part; children = in_order child_cmp (children_of part ps) } in e in
    ap (map (entry (p ∷ run ++ others))) (sym (parts_of_run p run others same above))
    ∙ (λ i. record { name = p.0; children = run_children p run others same above up i }
    ∷ entries_apart (entry (p ∷ run ++ others)) (entry others) p.0 (in_order text_cmp (map (λ q. q.0) others))
    (λ other h j. record { name = other; children = in_order child_cmp (other_children p run others same other h j) })
    (below-in_order text_same p.0 (map (λ q. q.0) others) (every_map (λ part. text_cmp p.0 part ≡ Less) (λ q. q.0) others above)) i)

-- ---- the same of what a list shows

shown_apart : {X : Type 0} (view : X → List ℕ × ChildValue) (p : X) (run ys : List X)
    → IsChunkByPrefix (λ x y. bytes_eq (view x).0 (view y).0) (p ∷ run ++ ys) (length (p ∷ run))
    → (y : List ℕ × ChildValue) (zs : List (List ℕ × ChildValue)) → map view ys ≡ y ∷ zs → bytes_eq (view p).0 y.0 ≡ false
shown_apart view p run [] cut y zs e = cc
shown_apart view p run (x ∷ xs) cut y zs e =
    let n = length (p ∷ run) in
    let rs = p ∷ run ++ x ∷ xs in
    let last : (view (get_or rs (n - 1) x)).0 ≡ (view p).0 = one_part (λ q. (view q).0) rs n cut.0 (n - 1) x (omega arith) in
    let next : get_or rs n x ≡ x = get_or-append_seam (p ∷ run) x xs x in
    let first : view x ≡ y = ap (λ l. get_or l 0 y) e in
    (λ i. bytes_eq (sym last i) (sym first i).0) ∙ ap (λ q. bytes_eq (view (get_or rs (n - 1) x)).0 (view q).0) (sym next)
    ∙ cut.1 (omega (arith, length-append (p ∷ run) (x ∷ xs))) x

pub run_step : {X : Type 0} (view : X → List ℕ × ChildValue) (run ys rs : List X) → rs ≡ run ++ ys → 0 < length run
    → IsChunkByPrefix (λ x y. bytes_eq (view x).0 (view y).0) rs (length run)
    → IsStrictlySortedBy placed_cmp (map view rs)
    → IsStrictlySortedBy placed_cmp (map view ys)
    × ((d : X) → tree_of (map view rs)
    ≡ record { name = (view (get_or run 0 d)).0; children = map (λ q. q.1) (map view run) } ∷ tree_of (map view ys))
run_step view [] ys rs e some cut up = absurd (omega arith)
run_step view (p ∷ run) ys rs e some cut up =
    let cut : IsChunkByPrefix (λ x y. bytes_eq (view x).0 (view y).0) (p ∷ run ++ ys) (length (p ∷ run)) =
    subst (λ zs. IsChunkByPrefix (λ x y. bytes_eq (view x).0 (view y).0) zs (length (p ∷ run))) e cut in
    let all : map view rs ≡ view p ∷ map view run ++ map view ys = ap (map view) e ∙ map-append view (p ∷ run) ys in
    let up : IsStrictlySortedBy placed_cmp (view p ∷ map view run ++ map view ys) = subst (IsStrictlySortedBy placed_cmp) all up in
    let same =
    every_from_places (λ q. (view q).0 ≡ (view p).0) (p ∷ run)
    (λ k d below. ap (λ q. (view q).0) (sym (get_or_append_left (p ∷ run) ys d k below))
    ∙ one_part (λ q. (view q).0) (p ∷ run ++ ys) (length (p ∷ run)) cut.0 k d below) in
    let run_same = every_map (λ q. q.0 ≡ (view p).0) view run same.1 in
    let above = others_above (view p) (map view run) (map view ys) up (shown_apart view p run ys cut) in (
      sorted_right placed_cmp (view p ∷ map view run) (map view ys) up,
      λ d. ap tree_of all
          ∙ run_first (view p) (map view run) (map view ys) run_same above up,
    )

pub tree_of_nothing : {X : Type 0} (view : X → List ℕ × ChildValue) (xs : List X) → length xs ≡ 0 → tree_of (map view xs) ≡ []
unfolding tree_of
tree_of_nothing view [] e = refl
tree_of_nothing view (x ∷ xs) e = absurd (omega arith)

-- ---- the code's children

pub shown_children : (xs : List (Bor (List ℕ) × Child)) → map (λ x. child_value x.1) xs ≡ map (λ p. p.1) (map placed_value xs)
shown_children [] = refl
shown_children (x ∷ xs) = ap (λ cs. child_value x.1 ∷ cs) (shown_children xs)
