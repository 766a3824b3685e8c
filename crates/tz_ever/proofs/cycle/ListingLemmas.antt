-- Firings past a line's start are listed behind those that it lists without them, and leave its start as it is.
use Rattle.std.proofs.Common.{◌≡◌, ℕ, suc, ◌+◌, Bool, true, false, not, cond, if◌then◌else◌, List, [], ◌∷◌, ◌++◌, length, nat_lt, filter, find, take, drop, reverse, Option, Some, None, ℤ, pos, int_lt, int_eq, refl, sym, ap, ◌∙◌, arith}
use Rattle.std.proofs.{Math.Dec.{leb-suc-suc}, lemmas.Bool.Decides.{nat_tests}, lemmas.Int.{ints}, lemmas.List.{reverse-append}, lemmas.List.Folds.{find-append}}
use Rattle.std.specs.{List.{list_all, position_or_len}, Option.{option_or}}
use Rattle.zone_spans.specs.{Firings.{Firing}, Listing.{is_at, listed_from, start_firing}}
use Rattle.tz_ever.proofs.cycle.SettledLemmas.{and_first, and_second}

-- all of the firings come after that second
abbrev pub are_past : ℤ → List Firing → Bool
are_past start fs = list_all (λ f. int_lt start f.time) fs

abbrev is_below : ℤ → Firing → Bool
is_below start f = int_lt f.time start

abbrev is_standard_firing : Firing → Bool
is_standard_firing f = int_eq f.rule.time_to_add (pos 0)

not_at : (a b : ℤ) → int_lt b a ≡ true → int_eq a b ≡ false
not_at a b h = grind (arith, ints)

not_below : (a b : ℤ) → int_lt b a ≡ true → int_lt a b ≡ false
not_below a b h = grind (arith, ints)

-- what is listed, a firing at a time
listed_step : (start : ℤ) (f : Firing) (fs : List Firing) → listed_from start (f ∷ fs)
    ≡ cond (is_at start f) (f ∷ fs) (cond (int_lt start f.time) (f ∷ listed_from start fs) (listed_from start fs))
unfolding listed_from
listed_step start f fs =
    let place = position_or_len (is_at start) fs in
    let next : 1 + place ≡ suc place = omega arith in
    let later = λ (g : Firing). int_lt start g.time in
    let shown = λ (n : ℕ). filter later (take n (f ∷ fs)) ++ drop n (f ∷ fs) in
    ap (λ n. shown (cond (not (is_at start f)) n 0)) next ∙ by_tests (is_at start f) (int_lt start f.time) place
  where
    by_tests : (at past : Bool) (n : ℕ) → filter (λ (g : Firing). int_lt start g.time) (take (cond (not at) (suc n) 0) (f ∷ fs))
        ++ drop (cond (not at) (suc n) 0) (f ∷ fs)
        ≡ cond at (f ∷ fs) (cond (int_lt start f.time) (f ∷ (filter (λ (g : Firing). int_lt start g.time) (take n fs) ++ drop n fs))
        (filter (λ (g : Firing). int_lt start g.time) (take n fs) ++ drop n fs))
    by_tests true past n = refl
    by_tests false past n = elim (int_lt start f.time) as (λ b. cond b (f ∷ filter (λ (g : Firing). int_lt start g.time) (take n fs))
        (filter (λ (g : Firing). int_lt start g.time) (take n fs)) ++ drop n fs
        ≡ cond b (f ∷ (filter (λ (g : Firing). int_lt start g.time) (take n fs) ++ drop n fs))
        (filter (λ (g : Firing). int_lt start g.time) (take n fs) ++ drop n fs)) [
          | true ↦ refl
          | false ↦ refl
        ]

listed_past : (start : ℤ) (gs : List Firing) → are_past start gs ≡ true → listed_from start gs ≡ gs
listed_past start [] past = unfold listed_from in refl
listed_past start (g ∷ gs) past =
    let here : int_lt start g.time ≡ true = and_first (int_lt start g.time) (are_past start gs) past in
    let others = listed_past start gs (and_second (int_lt start g.time) (are_past start gs) past) in
    listed_step start g gs ∙ rw (not_at g.time start here, here, others)

pub listed_from-more : (start : ℤ) (fs gs : List Firing) → are_past start gs ≡ true
    → listed_from start (fs ++ gs) ≡ listed_from start fs ++ gs
listed_from-more start [] gs past = listed_past start gs past ∙ unfold listed_from in refl
listed_from-more start (f ∷ fs) gs past =
    listed_step start f (fs ++ gs)
    ∙ ap (λ l. cond (is_at start f) (f ∷ fs ++ gs) (cond (int_lt start f.time) (f ∷ l) l)) (listed_from-more start fs gs past)
    ∙ by_tests (is_at start f) (int_lt start f.time)
    ∙ ap (λ l. l ++ gs) (sym (listed_step start f fs))
  where
    by_tests : (at past : Bool) → cond at (f ∷ fs ++ gs) (cond past (f ∷ (listed_from start fs ++ gs)) (listed_from start fs ++ gs))
        ≡ cond at (f ∷ fs) (cond past (f ∷ listed_from start fs) (listed_from start fs)) ++ gs
    by_tests true past = refl
    by_tests false true = refl
    by_tests false false = refl

-- a firing is at the start
has_at : ℤ → List Firing → Bool
has_at start fs = nat_lt (position_or_len (is_at start) fs) (length fs)

zero_is_less : (n : ℕ) → nat_lt 0 (suc n) ≡ true
zero_is_less n = grind (arith, nat_tests)

has_at-step : (start : ℤ) (f : Firing) (fs : List Firing) → has_at start (f ∷ fs) ≡ cond (is_at start f) true (has_at start fs)
unfolding has_at
has_at-step start f fs =
    let place = position_or_len (is_at start) fs in
    let next : 1 + place ≡ suc place = omega arith in
    ap (λ n. nat_lt (cond (not (is_at start f)) n 0) (suc (length fs))) next ∙ by_test (is_at start f) place
  where
    by_test : (at : Bool) (n : ℕ) → nat_lt (cond (not at) (suc n) 0) (suc (length fs)) ≡ cond at true (nat_lt n (length fs))
    by_test true n = zero_is_less (length fs)
    by_test false n = leb-suc-suc (suc n) (length fs)

has_at-past : (start : ℤ) (gs : List Firing) → are_past start gs ≡ true → has_at start gs ≡ false
has_at-past start [] past = unfold has_at in refl
has_at-past start (g ∷ gs) past =
    let here : int_lt start g.time ≡ true = and_first (int_lt start g.time) (are_past start gs) past in
    has_at-step start g gs ∙ rw (not_at g.time start here) (has_at-past start gs (and_second (int_lt start g.time) (are_past start gs) past))

has_at-more : (start : ℤ) (fs gs : List Firing) → are_past start gs ≡ true → has_at start (fs ++ gs) ≡ has_at start fs
has_at-more start [] gs past = has_at-past start gs past ∙ unfold has_at in refl
has_at-more start (f ∷ fs) gs past =
    has_at-step start f (fs ++ gs) ∙ ap (λ b. cond (is_at start f) true b) (has_at-more start fs gs past) ∙ sym (has_at-step start f fs)

-- none of those past the start is found below it
none_below : (start : ℤ) (gs : List Firing) → are_past start gs ≡ true → find (is_below start) (reverse gs) ≡ None
none_below start [] past = refl
none_below start (g ∷ gs) past =
    let here : int_lt start g.time ≡ true = and_first (int_lt start g.time) (are_past start gs) past in
    ap (find (is_below start)) (reverse-append (g ∷ []) gs) ∙ find-append (is_below start) (reverse gs) (g ∷ [])
    ∙ ap (λ o. option_or o (find (is_below start) (g ∷ []))) (none_below start gs (and_second (int_lt start g.time) (are_past start gs) past))
    ∙ rw (not_below g.time start here)

found_first : {X : Type 0} (a b : Option X) (x : X) → a ≡ Some x → option_or a b ≡ a
found_first a b x is = rw is

-- a firing that ends a saving is among the first ones
pub start_firing-more : (start : ℤ) (fs gs : List Firing) (f : Firing) → are_past start gs ≡ true
    → find (λ g. int_eq g.rule.time_to_add (pos 0)) fs ≡ Some f → start_firing start (fs ++ gs) ≡ start_firing start fs
unfolding start_firing has_at
start_firing-more start fs gs f past found =
    let below : find (is_below start) (reverse (fs ++ gs)) ≡ find (is_below start) (reverse fs) =
    ap (find (is_below start)) (reverse-append fs gs) ∙ find-append (is_below start) (reverse gs) (reverse fs)
    ∙ ap (λ o. option_or o (find (is_below start) (reverse fs))) (none_below start gs past) in
    let standard : find is_standard_firing (fs ++ gs) ≡ find is_standard_firing fs =
    find-append is_standard_firing fs gs ∙ found_first (find is_standard_firing fs) (find is_standard_firing gs) f found in
    (λ i. if has_at-more start fs gs past i then None else option_or (below i) (standard i))
