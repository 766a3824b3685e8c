-- Names in order, what they find, and the first that is refused.
use Rattle.std.proofs.{Common.{◌≡◌, ◌+◌, ◌<◌, ◌++◌, ℕ, zero, suc, Bool, true, false, cond, List, [], ◌∷◌, get_or, length, map, refl, sym, ap, ◌∙◌, ⊎_elim, arith}, Math.Bool.{or_comm}, lemmas.Bool.{and_parts, cases_lt}, lemmas.Cmp.{nat_list_cmp_total}}
use Rattle.std.proofs.lemmas.{List.{append-nil, reverse-append}, List.Elements.{filter-append}, List.Folds.{list_any-append}, List.Sorted.{list_any-IsPermutation}, Map.Text.{is_eq-slice_cmp}}
use Rattle.std.specs.{Prelude.{◌||◌, ◌&&◌, filter, not, option_map, reverse, Option, Some, None}, Borrow.{Bor}, declared.cmp.Ordering.{Ordering}, declared.cmp.Ordering.TheVariants.{Less, Equal, Greater}, BTreeSet.{insert_key}}
use Rattle.std.specs.{FinMap.{keys, IsAntisymmetric, slice_cmp-IsAntisymmetric, nat_cmp-IsAntisymmetric}, FinMap.Entries.{below_all}, List.{find, list_all, list_any}, List.Sorted.{IsPartitionPoint, IsPermutation, IsSortedBy}, Option.{option_or}}
use Rattle.std.specs.{Str.{bytes_eq}, Ordering.{is_eq, is_lt, match_ordering, ordering_reverse}}
use Rattle.basics.specs.{InOrder.{in_order}, InOrderLaws.{same_in_order, any-in_order, tagged, RisesStrictly, less}, Keyed.{text_cmp}, TestLaws.{all_by_any}}
use Rattle.zone_spans.specs.{declared.fault.SpanFault.{SpanFault}, Schedules.{is_in_offset_range}}
use Rattle.zone_table.specs.declared.table.Table.{Table}
use Rattle.tz_lookup.specs.{Compiles.{compiled_in, spans_of, IsCompiledAs, IsTooFar, IsZoneFault}, Sets.{schedule_of, IsAccepted}, CompileLaws.{totals_same}, declared.compile.ZoneFault.{ZoneFault}, declared.set.FixedTimespanSet.{FixedTimespanSet}, Databases.{names_of, resolves, found_in, found_as, refusal_of, zone_refusal, first_refused, Named, IsDatabaseFault, name_shown}, declared.database.DatabaseFault.TheVariants.{Schedule, OffsetRange}}
use Rattle.tz_lookup.specs.declared.compile.ZoneFault.TheVariants as zone_fault

pub text_same : IsAntisymmetric text_cmp
text_same = slice_cmp-IsAntisymmetric nat_cmp-IsAntisymmetric

-- ---- names put in order one by one

pub insert_shown : (ks : List (Bor (List ℕ))) (k : Bor (List ℕ))
    → map name_shown (insert_key (λ a b. text_cmp a.now b.now) ks k) ≡ insert_key text_cmp (map name_shown ks) k.now
insert_shown [] k = refl
insert_shown (x ∷ xs) k =
    elim (text_cmp k.now x.now)
    as (λ r. map name_shown (match_ordering r (k ∷ x ∷ xs) (x ∷ xs) (x ∷ insert_key (λ a b. text_cmp a.now b.now) xs k))
    ≡ match_ordering r (k.now ∷ x.now ∷ map name_shown xs) (x.now ∷ map name_shown xs)
    (x.now ∷ insert_key text_cmp (map name_shown xs) k.now)) [
      | Less ↦ refl
      | Equal ↦ refl
      | Greater ↦ ap (λ l. x.now ∷ l) (insert_shown xs k)
    ]

-- one more name that passes
pub placed_more : (p : List ℕ → Bool) (names : List (List ℕ)) (x : List ℕ) → p x ≡ true
    → in_order text_cmp (reverse (filter p (names ++ x ∷ []))) ≡ insert_key text_cmp (in_order text_cmp (reverse (filter p names))) x
placed_more p names x h =
    ap (λ ns. in_order text_cmp (reverse ns))
    (filter-append p names (x ∷ []) ∙ ap (λ b. filter p names ++ cond b (x ∷ []) []) h)
    ∙ ap (in_order text_cmp) (reverse-append (filter p names) (x ∷ []))

-- one more that doesn't
pub passed_over : (p : List ℕ → Bool) (names : List (List ℕ)) (x : List ℕ) → p x ≡ false
    → in_order text_cmp (reverse (filter p (names ++ x ∷ []))) ≡ in_order text_cmp (reverse (filter p names))
passed_over p names x h =
    ap (λ ns. in_order text_cmp (reverse ns))
    (filter-append p names (x ∷ []) ∙ ap (λ b. filter p names ++ cond b (x ∷ []) []) h ∙ append-nil (filter p names))

-- ---- the order in which they came is of no account

any-reverse : {K : Type 0} (test : K → Bool) (xs : List K) → list_any test (reverse xs) ≡ list_any test xs
any-reverse test [] = refl
any-reverse test (x ∷ xs) =
    ap (list_any test) (reverse-append (x ∷ []) xs) ∙ list_any-append test (reverse xs) (x ∷ [])
    ∙ or_comm (list_any test (reverse xs)) (list_any test (x ∷ []))
    ∙ (λ i. list_any test (x ∷ []) || any-reverse test xs i) ∙ sym (list_any-append test (x ∷ []) xs)

pub any-filter : {K : Type 0} (p test : K → Bool) (xs : List K) → list_any test (filter p xs) ≡ list_any (λ x. p x && test x) xs
any-filter p test [] = refl
any-filter p test (x ∷ xs) =
    elim (p x)
    as (λ b. list_any test (cond b (x ∷ filter p xs) (filter p xs)) ≡ ((b && test x) || list_any (λ y. p y && test y) xs)) [
      | true ↦ ap (λ b. test x || b) (any-filter p test xs)
      | false ↦ any-filter p test xs
    ]

pub in_any_order : (p : List ℕ → Bool) (zones links zs ls : List (List ℕ)) → IsPermutation zones zs → IsPermutation links ls
    → in_order text_cmp (reverse (filter p (zs ++ ls))) ≡ in_order text_cmp (filter p (zones ++ links))
in_any_order p zones links zs ls moved more =
    same_in_order nat_list_cmp_total text_same (reverse (filter p (zs ++ ls))) (filter p (zones ++ links))
    (λ test.
    let both = λ (x : List ℕ). p x && test x in
    any-reverse test (filter p (zs ++ ls)) ∙ any-filter p test (zs ++ ls) ∙ list_any-append both zs ls
    ∙ (λ i. sym (list_any-IsPermutation both zones zs moved) i || sym (list_any-IsPermutation both links ls more) i)
    ∙ sym (list_any-append both zones links) ∙ sym (any-filter p test (zones ++ links)))

-- ---- what one name finds

pub found_is : (table : Table) (name : List ℕ) (set : FixedTimespanSet) → set.name ≡ name → IsCompiledAs set (compiled_in table name)
    → found_as set ≡ found_in table name
unfolding found_in
found_is table name set named found = λ i. (named i, sym found i)

pub bad_schedule : (table : Table) (name text : List ℕ) (fault : SpanFault) → text ≡ name
    → IsZoneFault (compiled_in table name) (zone_fault.Schedule fault)
    → IsDatabaseFault (option_map (λ f. (name, f)) (zone_refusal table name)) (Schedule text fault)
unfolding zone_refusal
bad_schedule table name text fault named refused =
    (ap (λ found. option_map (λ f. (name, f)) (refusal_of found)) refused.0 ∙ (λ i. Some (sym named i, zone_fault.Schedule fault)), refused.1)

pub bad_offset : (table : Table) (name text : List ℕ) → text ≡ name → IsTooFar (compiled_in table name)
    → IsDatabaseFault (option_map (λ f. (name, f)) (zone_refusal table name)) (OffsetRange text)
unfolding zone_refusal
bad_offset table name text named refused =
    ap (λ found. option_map (λ f. (name, f)) (refusal_of found)) refused.is_found
    ∙ ap (λ b. option_map (λ f. (name, f)) (cond b None (Some zone_fault.OffsetRange))) refused.far
    ∙ (λ i. Some (sym named i, zone_fault.OffsetRange))

-- ---- names that all find a zone

none_fails : (a : Bool) → (a && not a) ≡ false
none_fails true = refl
none_fails false = refl

no_pass_fails : {K : Type 0} (p : K → Bool) (xs : List K) → list_any (λ x. p x && not (p x)) xs ≡ false
no_pass_fails p [] = refl
no_pass_fails p (x ∷ xs) = (λ i. none_fails (p x) i || list_any (λ y. p y && not (p y)) xs) ∙ no_pass_fails p xs

-- so do those that were kept, in order
all_in_order : (p : List ℕ → Bool) (xs : List (List ℕ)) → list_all p (in_order text_cmp (filter p xs)) ≡ true
all_in_order p xs =
    all_by_any p (in_order text_cmp (filter p xs))
    ∙ ap not (any-in_order text_same (λ x. not (p x)) (filter p xs) ∙ any-filter p (λ x. not (p x)) xs ∙ no_pass_fails p xs)

pub names_resolve : (table : Table) → list_all (resolves table) (names_of table) ≡ true
unfolding names_of
names_resolve table = all_in_order (resolves table) (keys table.zonesets ++ keys table.links)

-- ---- zones beside what their names find

-- a zone that is known has no refusal
pub no_refusal : (table : Table) (name : List ℕ) (set : FixedTimespanSet) → IsAccepted (schedule_of set) → found_as set ≡ found_in table name
    → zone_refusal table name ≡ None
unfolding zone_refusal found_in
no_refusal table name set accepted is =
    ap (λ (found : Named). refusal_of found.1) (sym is)
    ∙ ap (λ b. cond b None (Some zone_fault.OffsetRange))
    (ap is_in_offset_range (totals_same set (spans_of set) refl refl) ∙ accepted.range)

-- the first that is refused is not one that isn't
pub refused_later : (refusal : List ℕ → Option ZoneFault) (name : List ℕ) (names : List (List ℕ)) → refusal name ≡ None
    → first_refused refusal (name ∷ names) ≡ first_refused refusal names
refused_later refusal name names none =
    ap (λ r. option_or (option_map (λ fault. (name, fault)) r) (first_refused refusal names)) none

pub names_found : (table : Table) (sets : List FixedTimespanSet) (names : List (List ℕ))
    → map found_as sets ≡ map (found_in table) names → map (λ (set : FixedTimespanSet). set.name) sets ≡ names
unfolding found_in
names_found table sets names is = sym (first_found sets) ∙ ap (map (λ (found : Named). found.0)) is ∙ first_asked names
  where
    first_found : (sets : List FixedTimespanSet) → map (λ (found : Named). found.0) (map found_as sets) ≡ map (λ (set : FixedTimespanSet). set.name) sets
    first_found [] = refl
    first_found (set ∷ more) = ap (λ names. set.name ∷ names) (first_found more)

    first_asked : (names : List (List ℕ)) → map (λ (found : Named). found.0) (map (found_in table) names) ≡ names
    first_asked [] = refl
    first_asked (name ∷ more) = ap (λ names. name ∷ names) (first_asked more)

-- ---- a name among names that rise

turned : (a b : List ℕ) (r : Ordering) → text_cmp a b ≡ r → text_cmp b a ≡ ordering_reverse r
turned a b r e = nat_list_cmp_total.antisymm b a ∙ ap ordering_reverse e

-- whether the name asked is an item's
asked : (name other : List ℕ) (r : Ordering) → text_cmp other name ≡ r → bytes_eq name other ≡ is_eq (ordering_reverse r)
asked name other r e = sym (is_eq-slice_cmp name other) ∙ ap is_eq (turned other name r e)

module _ {X : Type 0} (key : X → List ℕ) where
  below_at : (x : X) (xs : List X) (k : ℕ) (d : X)
      → below_all text_cmp (key x) (tagged (map key xs)) ≡ true → k < length xs → text_cmp (key x) (key (get_or xs k d)) ≡ Less
  below_at x [] k d h l = absurd (omega arith)
  below_at x (y ∷ ys) zero d h l = less _ (and_parts _ _ h).0
  below_at x (y ∷ ys) (suc k) d h l = below_at x ys k d (and_parts (is_lt (text_cmp (key x) (key y))) _ h).1 (omega arith)

  rise_at : (xs : List X) (i j : ℕ) (d : X) → RisesStrictly text_cmp (map key xs) → i < j → j < length xs
      → text_cmp (key (get_or xs i d)) (key (get_or xs j d)) ≡ Less
  rise_at [] i j d up l m = absurd (omega arith)
  rise_at (x ∷ xs) i zero d up l m = absurd (omega arith)
  rise_at (x ∷ xs) zero (suc j) d up l m = below_at x xs j d (and_parts _ _ up).0 (omega arith)
  rise_at (x ∷ xs) (suc i) (suc j) d up l m =
      rise_at xs i j d (and_parts (below_all text_cmp (key x) (tagged (map key xs))) _ up).1 (omega arith) (omega arith)

  -- no name is below the one before it
  pub names_sorted : (xs : List X) → RisesStrictly text_cmp (map key xs) → IsSortedBy (λ a b. is_lt (text_cmp (key a) (key b))) xs
  names_sorted xs up k d low more =
      ap is_lt (turned (key (get_or xs k d)) (key (get_or xs (k + 1) d)) Less (rise_at xs k (k + 1) d up (omega arith) more))

  -- the item with that name is the one that is found
  pub found_at : (name : List ℕ) (xs : List X) (k : ℕ) (d : X) → RisesStrictly text_cmp (map key xs)
      → k < length xs → text_cmp (key (get_or xs k d)) name ≡ Equal → find (λ x. bytes_eq name (key x)) xs ≡ Some (get_or xs k d)
  found_at name [] k d up l e = absurd (omega arith)
  found_at name (x ∷ xs) zero d up l e = ap (λ b. cond b (Some x) (find (λ y. bytes_eq name (key y)) xs)) (asked name (key x) Equal e)
  found_at name (x ∷ xs) (suc k) d up l e =
      let parts = and_parts (below_all text_cmp (key x) (tagged (map key xs))) _ up in
      let before : text_cmp (key x) name ≡ Less =
      ap (text_cmp (key x)) (sym (text_same (key (get_or xs k d)) name e)) ∙ below_at x xs k d parts.0 (omega arith) in
      ap (λ b. cond b (Some x) (find (λ y. bytes_eq name (key y)) xs)) (asked name (key x) Less before)
      ∙ found_at name xs k d parts.1 (omega arith) e

  -- where no item has the name none is found
  none_at : (name : List ℕ) (xs : List X)
      → ((k : ℕ) (d : X) → k < length xs → bytes_eq name (key (get_or xs k d)) ≡ false) → find (λ x. bytes_eq name (key x)) xs ≡ None
  none_at name [] h = refl
  none_at name (x ∷ xs) h =
      ap (λ b. cond b (Some x) (find (λ y. bytes_eq name (key y)) xs)) (h 0 x (omega arith))
      ∙ none_at name xs (λ k d l. h (suc k) d (omega arith))

  -- before the place of a name lie the smaller ones, and from it on the greater ones
  pub none_beside : (name : List ℕ) (xs : List X) (i : ℕ)
      → IsPartitionPoint (λ x. text_cmp (key x) name ≡ Less) (λ x. text_cmp (key x) name ≡ Greater) xs i
      → find (λ x. bytes_eq name (key x)) xs ≡ None
  none_beside name xs i parted =
      none_at name xs (λ k d l.
      ⊎_elim {C = bytes_eq name (key (get_or xs k d)) ≡ false}
      (λ low. asked name (key (get_or xs k d)) Less (parted.0 k d (omega arith) low))
      (λ high. asked name (key (get_or xs k d)) Greater (parted.1 k d high l))
      (cases_lt k i))

pub find-map : {X Y : Type 0} (f : X → Y) (test : Y → Bool) (xs : List X)
    → find test (map f xs) ≡ option_map f (find (λ x. test (f x)) xs)
find-map f test [] = refl
find-map f test (x ∷ xs) =
    elim (test (f x)) as (λ b. cond b (Some (f x)) (find test (map f xs)) ≡ option_map f (cond b (Some x) (find (λ y. test (f y)) xs))) [
      | true ↦ refl
      | false ↦ find-map f test xs
    ]

pub map-twice : {X Y Z : Type 0} (f : X → Y) (g : Y → Z) (xs : List X) → map g (map f xs) ≡ map (λ x. g (f x)) xs
map-twice f g [] = refl
map-twice f g (x ∷ xs) = ap (λ zs. g (f x) ∷ zs) (map-twice f g xs)
