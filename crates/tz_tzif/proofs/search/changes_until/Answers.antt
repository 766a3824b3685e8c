-- A search among changes whose times rise gives those that are at or before a second.
use Rattle.std.proofs.Common.{◌≡◌, ℕ, zero, suc, ◌≤◌, ◌<◌, Bool, true, false, cond, List, [], ◌∷◌, length, map, take, get_or, slice_index_or, ℤ, pos, ◌≤ℤ◌, ◌<ℤ◌, int_lt, int_le, nat_eq, refl, sym, ap, ◌∙◌, subst, arith, rules, of_calls}
use Rattle.std.proofs.lemmas.{Bool.{and_parts}, Bool.Decides.{nat_tests}, Int.{ints}, Simd.{map-map}, Fn.{always_returns_same}, List.{length-map}}
use Rattle.std.specs.List.{filter, list_all}
use Rattle.basics.specs.ComparisonLaws.{le_itself}
use Rattle.zone_tzif_core.specs.{ZoneFiles.{change_with, changes_with, kinds_kept, unnumbered}, Zones.{KindValue, go_up, rises}}
use Rattle.tz_tzif.specs.Steady.{IsSteady}
use Rattle.tz_tzif.proofs.search.changes_until.Goals as goal

-- where the first i items pass a test and no others do, they are what passes
front : {X Y : Type 0} (f : X → Y) (p : Y → Bool) (xs : List X) (i : ℕ) → i ≤ length xs
    → ((j : ℕ) (d : X) → j < i → p (f (get_or xs j d)) ≡ true) → ((j : ℕ) (d : X) → i ≤ j → j < length xs → p (f (get_or xs j d)) ≡ false)
    → take i (map f xs) ≡ filter p (map f xs)
front f p [] zero l before after = refl
front f p [] (suc i) l before after = absurd (omega (arith, l))
front f p (x ∷ xs) zero l before after =
    let rest = filter p (map f xs) in
    front f p xs zero (omega arith) (λ j d m. absurd (omega (arith, m))) (λ j d m n. after (suc j) d (omega arith) (omega (arith, n)))
    ∙ sym (ap (λ b. cond b (f x ∷ rest) rest) (after 0 x (omega arith) (omega arith)))
front f p (x ∷ xs) (suc i) l before after =
    let rest = filter p (map f xs) in
    ap (λ ys. f x ∷ ys) (front f p xs i (omega (arith, l)) (λ j d m. before (suc j) d (omega (arith, m)))
    (λ j d m n. after (suc j) d (omega (arith, m)) (omega (arith, n))))
    ∙ sym (ap (λ b. cond b (f x ∷ rest) rest) (before 0 x (omega arith)))

-- all pass exactly where there are i of them
all_front : {X Y : Type 0} (f : X → Y) (p : Y → Bool) (xs : List X) (i : ℕ) → i ≤ length xs
    → ((j : ℕ) (d : X) → j < i → p (f (get_or xs j d)) ≡ true) → ((j : ℕ) (d : X) → i ≤ j → j < length xs → p (f (get_or xs j d)) ≡ false)
    → list_all p (map f xs) ≡ nat_eq i (length xs)
all_front f p [] zero l before after = refl
all_front f p [] (suc i) l before after = absurd (omega (arith, l))
all_front f p (x ∷ xs) zero l before after =
    let fails = after 0 x (omega arith) (omega arith) in
    let some : nat_eq 0 (length (x ∷ xs)) ≡ false = grind (arith, nat_tests) in
    rw (fails, some) refl
all_front f p (x ∷ xs) (suc i) l before after =
    let passes = before 0 x (omega arith) in
    let more = all_front f p xs i (omega (arith, l)) (λ j d m. before (suc j) d (omega (arith, m)))
    (λ j d m n. after (suc j) d (omega (arith, m)) (omega (arith, n))) in
    let same : nat_eq (suc i) (length (x ∷ xs)) ≡ nat_eq i (length xs) = grind (arith, nat_tests) in
    rw (passes, same) more

-- a change has the time that it had before it got its kind
timed : (kinds : List KindValue) (xs : List (ℤ × ℕ)) (i : ℕ) (d : ℤ × ℕ) → i < length xs
    → (slice_index_or (changes_with kinds xs) i (pos 0, unnumbered)).0 ≡ (get_or xs i d).0
timed kinds [] i d m = absurd (omega (arith, m))
timed kinds (x ∷ xs) zero d m = refl
timed kinds (x ∷ xs) (suc i) d m = timed kinds xs i d (omega (arith, m))

lt_le : (a b c : ℤ) → int_lt a b ≡ true → b ≤ℤ c → a ≤ℤ c
lt_le a b c h k = grind (arith, ints)

later : {X : Type 0} (f : X → ℤ) (xs : List X) → go_up (map f xs) ≡ true → (i j : ℕ) (d : X) → i ≤ j → j < length xs
    → f (get_or xs i d) ≤ℤ f (get_or xs j d)
later f [] h i j d l m = absurd (omega (arith, m))
later f (x ∷ xs) h zero zero d l m = le_itself (f x)
later f (x ∷ []) h zero (suc j) d l m = absurd (omega (arith, m))
later f (x ∷ y ∷ xs) h zero (suc j) d l m =
    let both = and_parts (int_lt (f x) (f y)) _ h in
    lt_le (f x) (f y) _ both.0 (later f (y ∷ xs) both.1 zero j d (omega arith) (omega (arith, m)))
later f (x ∷ xs) h (suc i) zero d l m = absurd (omega (arith, l))
later f (x ∷ []) h (suc i) (suc j) d l m = absurd (omega (arith, m))
later f (x ∷ y ∷ xs) h (suc i) (suc j) d l m =
    let both = and_parts (int_lt (f x) (f y)) _ h in
    later f (y ∷ xs) both.1 i j d (omega (arith, l)) (omega (arith, m))

before_too : (a b s : ℤ) → a ≤ℤ b → int_le b s ≡ true → int_le a s ≡ true
before_too a b s h k = grind (arith, ints)

-- what the search asks for
parted : (kinds : List KindValue) (changes : List (ℤ × ℕ)) (s : ℤ) → rises (changes_with kinds changes) ≡ true → (i j : ℕ) (d : ℤ × ℕ) → i ≤ j
    → j < length changes → int_le (get_or changes j d).0 s ≡ true → int_le (get_or changes i d).0 s ≡ true
parted kinds changes s h i j d l m passes =
    let up : go_up (map (λ (c : ℤ × ℕ). c.0) changes) ≡ true =
    subst (λ ts. go_up ts ≡ true) (map-map (λ (shift : ℤ × KindValue). shift.0) (change_with kinds) changes) h in
    before_too _ _ s (later (λ (c : ℤ × ℕ). c.0) changes up i j d l m) passes

int_le_lt : (a s t : ℤ) → s ≤ℤ t → int_le a s ≡ true → int_le a t ≡ true
int_le_lt a s t h k = grind (arith, ints)

above : (a b t : ℤ) → t <ℤ a → a ≤ℤ b → int_le b t ≡ false
above a b t h k = grind (arith, ints)

-- at a later second before the next change, the same have come
steady : (kinds : List KindValue) (xs : List (ℤ × ℕ)) (s : ℤ) (i : ℕ) → rises (changes_with kinds xs) ≡ true → i ≤ length xs
    → ((j : ℕ) (d : ℤ × ℕ) → j < i → int_le (get_or xs j d).0 s ≡ true) → IsSteady (changes_with kinds xs) i s
steady kinds xs s i up l before t order next =
    let times : go_up (map (λ (c : ℤ × ℕ). c.0) xs) ≡ true =
    subst (λ ts. go_up ts ≡ true) (map-map (λ (shift : ℤ × KindValue). shift.0) (change_with kinds) xs) up in
    let comes : (j : ℕ) (d : ℤ × ℕ) → j < i → int_le (get_or xs j d).0 t ≡ true = λ j d m. int_le_lt _ s t order (before j d m) in
    let waits : (j : ℕ) (d : ℤ × ℕ) → i ≤ j → j < length xs → int_le (get_or xs j d).0 t ≡ false = λ j d m n.
    above (get_or xs i d).0 (get_or xs j d).0 t (first_waits kinds xs i t d (omega (arith, m, n)) next) (later (λ (c : ℤ × ℕ). c.0) xs times i j d m n) in
    record {
      before = front (change_with kinds) (λ change. int_le change.0 t) xs i l comes waits;
      over = all_front (change_with kinds) (λ change. int_le change.0 t) xs i l comes waits ∙ ap (nat_eq i) (sym (length-map xs (change_with kinds)));
    }
  where
    first_waits : (kinds : List KindValue) (xs : List (ℤ × ℕ)) (i : ℕ) (t : ℤ) (d : ℤ × ℕ) → i < length xs
        → (i < length (changes_with kinds xs) → t <ℤ (slice_index_or (changes_with kinds xs) i (pos 0, unnumbered)).0) → t <ℤ (get_or xs i d).0
    first_waits kinds xs i t d m next = subst (λ a. t <ℤ a) (timed kinds xs i d m) (next (subst (λ n. i < n) (sym (length-map xs (change_with kinds))) m))

not_yet : (a s : ℤ) → int_le a s ≡ false → s <ℤ a
not_yet a s h = grind (arith, ints)

-- the changes' times rise
up : (c : goal.After-partition_point) → rises (changes_with (kinds_kept c.args.zone.now) c.changes.result.now) ≡ true
up c = subst (λ l. rises l ≡ true) (sym c.changes.ensures) c.requires

-- the search parts them at the second
cut : (c : goal.After-partition_point) → ((j : ℕ) (d : ℤ × ℕ) → j < c.partition_point.result → int_le (get_or c.changes.result.now j d).0 c.args.second ≡ true)
    × ((j : ℕ) (d : ℤ × ℕ) → c.partition_point.result ≤ j → j < length c.changes.result.now → int_le (get_or c.changes.result.now j d).0 c.args.second ≡ false)
cut c =
    let halves = c.partition_point.ensures.partitioned (λ t. int_le t.0 c.args.second) (always_returns_same _ _ _ (λ a r f k. search (rules, of_calls)))
    (λ i j d l m e. parted (kinds_kept c.args.zone.now) c.changes.result.now c.args.second (up c) i j d l m e) in
    (λ j d l. halves.0 j d (omega arith) l, λ j d m n. halves.1 j d m n)

pub returns-clause-next : goal.returns-clause-next
returns-clause-next c =
    let kinds = kinds_kept c.args.zone.now in
    let xs = c.changes.result.now in
    subst (λ l. c.partition_point.result < length l → c.args.second <ℤ (slice_index_or l c.partition_point.result (pos 0, unnumbered)).0) c.changes.ensures
    (λ m. let n = subst (λ l. c.partition_point.result < l) (length-map xs (change_with kinds)) m in
    subst (λ a. c.args.second <ℤ a) (sym (timed kinds xs c.partition_point.result (pos 0, 0) n))
    (not_yet _ c.args.second ((cut c).1 c.partition_point.result (pos 0, 0) (omega arith) n)))

pub returns-clause-same : goal.returns-clause-same
returns-clause-same c =
    let kinds = kinds_kept c.args.zone.now in
    let xs = c.changes.result.now in
    subst (λ l. IsSteady l c.partition_point.result c.args.second) c.changes.ensures
    (steady kinds xs c.args.second c.partition_point.result (up c) c.partition_point.ensures.bound (cut c).0)

pub returns-clause-within : goal.returns-clause-within
returns-clause-within c =
    let kinds = kinds_kept c.args.zone.now in
    let xs = c.changes.result.now in
    subst (λ l. c.partition_point.result ≤ length l) c.changes.ensures
    (omega (arith, c.partition_point.ensures.bound, length-map xs (change_with kinds)))

pub returns-clause-over : goal.returns-clause-over
returns-clause-over c =
    let kinds = kinds_kept c.args.zone.now in
    let xs = c.changes.result.now in
    subst (λ l. list_all (λ change. int_le change.0 c.args.second) l ≡ nat_eq c.partition_point.result (length l)) c.changes.ensures
    (rw (length-map xs (change_with kinds)) (all_front (change_with kinds) (λ change. int_le change.0 c.args.second) xs c.partition_point.result c.partition_point.ensures.bound (cut c).0 (cut c).1))

pub returns-clause-before : goal.returns-clause-before
returns-clause-before c =
    let kinds = kinds_kept c.args.zone.now in
    let xs = c.changes.result.now in
    subst (λ l. take c.partition_point.result l ≡ filter (λ change. int_le change.0 c.args.second) l) c.changes.ensures
    (front (change_with kinds) (λ change. int_le change.0 c.args.second) xs c.partition_point.result c.partition_point.ensures.bound (cut c).0 (cut c).1)
