-- What a zone that changes its offset once owes.
use Rattle.std.{proofs.Common.{◌≡◌, Bool, true, false, cond, List, [], ◌∷◌, map, take, length, ◌≤◌, ℤ, pos, ◌+ℤ◌, ◌*ℤ◌, ◌<ℤ◌, refl, sym, ap, ◌∙◌, subst, ⊎_elim, arith}, specs.Prelude.{Contains, int_lt}, proofs.lemmas.Bool.{cases_Bool}}
use Rattle.basics.specs.ComparisonLaws.{lt_from_pass, lt_from_fail, lt_le}
use Rattle.civil_base.specs.{Instants.{instant_at}, Ranges.{IsOffset}}
use Rattle.zone_spans.specs.Schedules.{instants}
use Rattle.tz_lookup.specs.{InForce.{AreInstants, totals_at}, InstantLaws.{from_reading, instants_one, reads_back}, RisingLaws.{Rises, pairs_more, contains_head, contains_more, cases_more}}
use Rattle.zone_uses.specs.Moves.{total_around, around_list}

total_early : (change a b t : ℤ) → int_lt t change ≡ true → total_around change a b t ≡ a
total_early change a b t h = ap (λ test. cond test a b) h

total_late : (change a b t : ℤ) → int_lt t change ≡ false → total_around change a b t ≡ b
total_late change a b t h = ap (λ test. cond test a b) h

-- an instant is read as a local time
abbrev Reads : (ℤ → ℤ) → ℤ → ℤ → Type 0
Reads total x t = (t +ℤ pos 1000000000 *ℤ total t) ≡ x

reads_early : (change a b x t : ℤ) → int_lt (instant_at x a) change ≡ true → instant_at x a ≡ t → Reads (total_around change a b) x t
reads_early change a b x t h e =
    reads_back x a (total_around change a b t) t (total_early change a b t (subst (λ s. int_lt s change ≡ true) e h)) e

reads_late : (change a b x t : ℤ) → int_lt (instant_at x b) change ≡ false → instant_at x b ≡ t → Reads (total_around change a b) x t
reads_late change a b x t h e =
    reads_back x b (total_around change a b t) t (total_late change a b t (subst (λ s. int_lt s change ≡ false) e h)) e

-- what is read as a local time is so at one of the two offsets, on its side of the change
by_side : {C : Type 0} (change a b x t : ℤ) → Reads (total_around change a b) x t
    → (int_lt (instant_at x a) change ≡ true → instant_at x a ≡ t → C)
    → (int_lt (instant_at x b) change ≡ false → instant_at x b ≡ t → C) → C
by_side {C} change a b x t r early late =
    ⊎_elim {C = C}
    (λ h. let e = sym (from_reading x t a (subst (λ o. (t +ℤ pos 1000000000 *ℤ o) ≡ x) (total_early change a b t h) r)) in
    early (subst (λ s. int_lt s change ≡ true) (sym e) h) e)
    (λ h. let e = sym (from_reading x t b (subst (λ o. (t +ℤ pos 1000000000 *ℤ o) ≡ x) (total_late change a b t h) r)) in
    late (subst (λ s. int_lt s change ≡ false) (sym e) h) e)
    (cases_Bool (int_lt t change))

nothing_rises : Rises []
nothing_rises i j d l m = absurd (omega (arith, m))

in_nothing : {P : Type 0} (t : ℤ) → Contains [] t → P
in_nothing t c = absurd (omega (arith, c.1))

one_rises : (s : ℤ) → Rises (s ∷ [])
one_rises s = pairs_more (λ s t. s <ℤ t) s [] (λ t c. in_nothing t c) nothing_rises

two_rise : (s t : ℤ) → s <ℤ t → Rises (s ∷ t ∷ [])
two_rise s t h =
    pairs_more (λ s t. s <ℤ t) s (t ∷ [])
    (λ u c. cases_more t [] u c (λ e. subst (λ v. s <ℤ v) e h) (λ d. in_nothing u d)) (one_rises t)

not_both : {P : Type 0} (b : Bool) → b ≡ true → b ≡ false → P
not_both b h k = absurd cc

-- read on both sides: a fold
pub are_two : (change a b x : ℤ) → int_lt (instant_at x a) change ≡ true → int_lt (instant_at x b) change ≡ false
    → AreInstants (total_around change a b) x (instant_at x a ∷ instant_at x b ∷ [])
are_two change a b x h k = record {
  rising = two_rise _ _ (lt_le _ _ _ (lt_from_pass _ _ h) (lt_from_fail _ _ k));
  exact = λ t. (
    λ c. cases_more (instant_at x a) (instant_at x b ∷ []) t c (reads_early change a b x t h)
        (λ d. cases_more (instant_at x b) [] t d (reads_late change a b x t k) (λ n. in_nothing t n)),
    λ r. by_side change a b x t r
        (λ _ e. subst (λ s. Contains (s ∷ instant_at x b ∷ []) t) (sym e) (contains_head t (instant_at x b ∷ [])))
        (λ _ e. contains_more (instant_at x a) (instant_at x b ∷ []) t (subst (λ s. Contains (s ∷ []) t) (sym e) (contains_head t []))),
  );
}

-- the instant alone is read so
alone : (total : ℤ → ℤ) (x s : ℤ) → ((t : ℤ) → s ≡ t → Reads total x t) → ((t : ℤ) → Reads total x t → s ≡ t) → AreInstants total x (s ∷ [])
alone total x s reads only = record {
  rising = one_rises s;
  exact = λ t. (
    λ c. cases_more s [] t c (reads t) (λ n. in_nothing t n),
    λ r. subst (λ u. Contains (u ∷ []) t) (sym (only t r)) (contains_head t []),
  );
}

-- before the change alone
pub are_early : (change a b x : ℤ) → int_lt (instant_at x a) change ≡ true → int_lt (instant_at x b) change ≡ true
    → AreInstants (total_around change a b) x (instant_at x a ∷ [])
are_early change a b x h k =
    alone (total_around change a b) x (instant_at x a) (λ t. reads_early change a b x t h)
    (λ t r. by_side change a b x t r (λ _ e. e) (λ n _. not_both _ k n))

-- from the change on alone
pub are_late : (change a b x : ℤ) → int_lt (instant_at x a) change ≡ false → int_lt (instant_at x b) change ≡ false
    → AreInstants (total_around change a b) x (instant_at x b ∷ [])
are_late change a b x h k =
    alone (total_around change a b) x (instant_at x b) (λ t. reads_late change a b x t k)
    (λ t r. by_side change a b x t r (λ n _. not_both _ n h) (λ _ e. e))

-- on neither side: a gap
pub are_none : (change a b x : ℤ) → int_lt (instant_at x a) change ≡ false → int_lt (instant_at x b) change ≡ true
    → AreInstants (total_around change a b) x []
are_none change a b x h k = record {
  rising = nothing_rises;
  exact = λ t. (
    λ c. in_nothing t c,
    λ r. by_side change a b x t r (λ n _. not_both _ n h) (λ n _. not_both _ k n),
  );
}

-- each total is an offset
pub around_in_range : (change a b : ℤ) → IsOffset a → IsOffset b → (t : ℤ) → IsOffset (total_around change a b t)
around_in_range change a b h k t =
    ⊎_elim {C = IsOffset (total_around change a b t)}
    (λ e. subst IsOffset (sym (total_early change a b t e)) h)
    (λ e. subst IsOffset (sym (total_late change a b t e)) k)
    (cases_Bool (int_lt t change))

-- the totals of a local time are those at its instants
pub totals_are : (total : ℤ → ℤ) (x : ℤ) (ts : List ℤ) → ((t : ℤ) → IsOffset (total t)) → AreInstants total x ts
    → map total ts ≡ totals_at total x
unfolding totals_at
totals_are total x ts h are = ap (map total) (sym (instants_one total x ts h are))

-- those totals give the instants of the local time
pub are_around : (change a b x : ℤ) (p q : Bool) → p ≡ int_lt (instant_at x a) change → q ≡ int_lt (instant_at x b) change
    → AreInstants (total_around change a b) x (map (instant_at x) (around_list p q a b))
are_around change a b x true true h k = are_early change a b x (sym h) (sym k)
are_around change a b x true false h k = are_two change a b x (sym h) (sym k)
are_around change a b x false true h k = are_none change a b x (sym h) (sym k)
are_around change a b x false false h k = are_late change a b x (sym h) (sym k)

back_again : (change a b x : ℤ) (p q : Bool) → p ≡ int_lt (instant_at x a) change → q ≡ int_lt (instant_at x b) change
    → around_list p q a b ≡ take 2 (map (total_around change a b) (map (instant_at x) (around_list p q a b)))
back_again change a b x true true h k = let e = sym (total_early change a b (instant_at x a) (sym h)) in (λ i. e i ∷ [])
back_again change a b x true false h k =
    let e = sym (total_early change a b (instant_at x a) (sym h)) in
    let f = sym (total_late change a b (instant_at x b) (sym k)) in (λ i. e i ∷ f i ∷ [])
back_again change a b x false true h k = refl
back_again change a b x false false h k = let f = sym (total_late change a b (instant_at x b) (sym k)) in (λ i. f i ∷ [])

-- and are the totals in force at them
pub totals_around : (change a b x : ℤ) (p q : Bool) → ((t : ℤ) → IsOffset (total_around change a b t))
    → p ≡ int_lt (instant_at x a) change → q ≡ int_lt (instant_at x b) change
    → around_list p q a b ≡ take 2 (totals_at (total_around change a b) x)
totals_around change a b x p q range h k =
    back_again change a b x p q h k ∙
    ap (take 2) (totals_are (total_around change a b) x (map (instant_at x) (around_list p q a b)) range (are_around change a b x p q h k))

-- a local time has two instants at most
pub two_around : (change a b : ℤ) → IsOffset a → IsOffset b → (x : ℤ) → length (instants (total_around change a b) x) ≤ 2
two_around change a b h k x =
    let range = around_in_range change a b h k in
    let total = total_around change a b in
    let few : (ts : List ℤ) → AreInstants total x ts → length ts ≤ 2 → length (instants total x) ≤ 2 =
    λ ts are short. subst (λ l. length l ≤ 2) (sym (instants_one total x ts range are)) short in
    ⊎_elim {C = length (instants total x) ≤ 2}
    (λ e. ⊎_elim {C = length (instants total x) ≤ 2}
    (λ f. few _ (are_early change a b x e f) (omega arith))
    (λ f. few _ (are_two change a b x e f) (omega arith))
    (cases_Bool (int_lt (instant_at x b) change)))
    (λ e. ⊎_elim {C = length (instants total x) ≤ 2}
    (λ f. few _ (are_none change a b x e f) (omega arith))
    (λ f. few _ (are_late change a b x e f) (omega arith))
    (cases_Bool (int_lt (instant_at x b) change)))
    (cases_Bool (int_lt (instant_at x a) change))
