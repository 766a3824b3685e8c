-- The instants of a local time are one rising list.
use Rattle.std.proofs.{Common.{◌≡◌, ℕ, zero, suc, ◌≤◌, Bool, true, false, cond, List, [], ◌∷◌, length, map, ℤ, pos, ◌+ℤ◌, ◌-ℤ◌, ◌*ℤ◌, ◌≤ℤ◌, ◌<ℤ◌, refl, sym, ap, ◌∙◌, subst, ⊎_elim, arith}, lemmas.Bool.{cases_Bool}, lemmas.Int.{ints}, lemmas.List.{length-map}}
use Rattle.std.specs.{Prelude.{Contains}, Ordering.{int_eq}, List.{filter}}
use Rattle.basics.specs.ComparisonLaws.{eq_from_pass, eq_pass, lt_le, le_from_eq}
use Rattle.civil_base.specs.{Ranges.{IsOffset, greatest_offset}, RangeLaws.{offset_least, offset_greatest}, Instants.{instant_at}}
use Rattle.zone_spans.specs.Schedules.{down_from, offset_count, offsets, instants}
use Rattle.tz_lookup.specs.{InForce.{all_in_force, in_force, AreInstants}, RisingLaws.{Rises, same_rising, pairs_more, contains_head, contains_more, cases_more}}

abbrev reads : (ℤ → ℤ) → ℤ → ℤ → Bool
reads total x o = int_eq (total (instant_at x o)) o

-- what the first n offsets from o on down give
abbrev kept : (ℤ → ℤ) → ℤ → ℤ → ℕ → List ℤ
kept total x o n = map (instant_at x) (filter (reads total x) (down_from o n))

kept_takes : (total : ℤ → ℤ) (x o : ℤ) (n : ℕ) → reads total x o ≡ true
    → kept total x o (suc n) ≡ instant_at x o ∷ kept total x (o -ℤ pos 1) n
kept_takes total x o n h =
    let rest = filter (reads total x) (down_from (o -ℤ pos 1) n) in
    ap (λ b. map (instant_at x) (cond b (o ∷ rest) rest)) h

kept_skips : (total : ℤ → ℤ) (x o : ℤ) (n : ℕ) → reads total x o ≡ false → kept total x o (suc n) ≡ kept total x (o -ℤ pos 1) n
kept_skips total x o n h =
    let rest = filter (reads total x) (down_from (o -ℤ pos 1) n) in
    ap (λ b. map (instant_at x) (cond b (o ∷ rest) rest)) h

back_by_one : (x o : ℤ) → instant_at x o <ℤ instant_at x (o -ℤ pos 1)
back_by_one x o = omega (arith, ints)

-- what an instant is read as, by the offset and by the total in force
pub reads_back : (x o total t : ℤ) → total ≡ o → instant_at x o ≡ t → (t +ℤ pos 1000000000 *ℤ total) ≡ x
reads_back x o total t e f = omega (arith, ints, e, f)

-- what is read as x at an offset is x less that offset
pub from_reading : (x t o : ℤ) → (t +ℤ pos 1000000000 *ℤ o) ≡ x → t ≡ instant_at x o
from_reading x t o e = omega (arith, ints, e)

le_lt : (a b c : ℤ) → a <ℤ b → b ≤ℤ c → a ≤ℤ c
le_lt a b c h k = omega (arith, ints)

kept_least : (total : ℤ → ℤ) (x o : ℤ) (n : ℕ) (t : ℤ) → Contains (kept total x o n) t → instant_at x o ≤ℤ t
kept_least total x o zero t c = absurd (omega (arith, c.1))
kept_least total x o (suc n) t c =
    let rest : Contains (kept total x (o -ℤ pos 1) n) t → instant_at x o ≤ℤ t =
    λ d. le_lt _ _ _ (back_by_one x o) (kept_least total x (o -ℤ pos 1) n t d) in
    ⊎_elim {C = instant_at x o ≤ℤ t}
    (λ h. cases_more (instant_at x o) (kept total x (o -ℤ pos 1) n) t (subst (λ l. Contains l t) (kept_takes total x o n h) c)
    (λ e. le_from_eq _ _ e) rest)
    (λ h. rest (subst (λ l. Contains l t) (kept_skips total x o n h) c))
    (cases_Bool (reads total x o))

kept_rises : (total : ℤ → ℤ) (x o : ℤ) (n : ℕ) → Rises (kept total x o n)
kept_rises total x o zero = λ i j d l m. absurd (omega (arith, m))
kept_rises total x o (suc n) =
    let less = kept_rises total x (o -ℤ pos 1) n in
    ⊎_elim {C = Rises (kept total x o (suc n))}
    (λ h. subst Rises (sym (kept_takes total x o n h))
    (pairs_more (λ s t. s <ℤ t) (instant_at x o) (kept total x (o -ℤ pos 1) n)
    (λ t c. lt_le _ _ _ (back_by_one x o) (kept_least total x (o -ℤ pos 1) n t c)) less))
    (λ h. subst Rises (sym (kept_skips total x o n h)) less)
    (cases_Bool (reads total x o))

abbrev Reads : (ℤ → ℤ) → ℤ → ℤ → Type 0
Reads total x t = (t +ℤ pos 1000000000 *ℤ total t) ≡ x

kept_reads : (total : ℤ → ℤ) (x o : ℤ) (n : ℕ) (t : ℤ) → Contains (kept total x o n) t → Reads total x t
kept_reads total x o zero t c = absurd (omega (arith, c.1))
kept_reads total x o (suc n) t c =
    ⊎_elim {C = Reads total x t}
    (λ h. cases_more (instant_at x o) (kept total x (o -ℤ pos 1) n) t (subst (λ l. Contains l t) (kept_takes total x o n h) c)
    (λ e. reads_back x o (total t) t (ap total (sym e) ∙ eq_from_pass _ _ h) e)
    (kept_reads total x (o -ℤ pos 1) n t))
    (λ h. kept_reads total x (o -ℤ pos 1) n t (subst (λ l. Contains l t) (kept_skips total x o n h) c))
    (cases_Bool (reads total x o))

lower : (p o : ℤ) (n : ℕ) → p ≤ℤ o → (p ≡ o → ⊥) → p ≤ℤ (o -ℤ pos 1)
lower p o n h k = grind (arith, ints)

one_less : (p o : ℤ) (n : ℕ) → o <ℤ (p +ℤ pos (suc n)) → (o -ℤ pos 1) <ℤ (p +ℤ pos n)
one_less p o n h = omega (arith, ints)

none_left : (p o : ℤ) → p ≤ℤ o → o <ℤ (p +ℤ pos 0) → ⊥
none_left p o h k = omega (arith, ints)

-- every offset among those that are tried is found
kept_all : (total : ℤ → ℤ) (x o : ℤ) (n : ℕ) (t : ℤ) → Reads total x t → total t ≤ℤ o → o <ℤ (total t +ℤ pos n)
    → Contains (kept total x o n) t
kept_all total x o zero t r h k = absurd (none_left _ _ h k)
kept_all total x o (suc n) t r h k =
    let back : t ≡ instant_at x (total t) = from_reading x t (total t) r in
    ⊎_elim {C = Contains (kept total x o (suc n)) t}
    (λ is. let e = eq_from_pass (total t) o is in
    let here : instant_at x o ≡ t = ap (instant_at x) (sym e) ∙ sym back in
    let passes : reads total x o ≡ true = eq_pass _ _ (ap total here ∙ e) in
    subst (λ l. Contains l t) (sym (kept_takes total x o n passes))
    (subst (λ s. Contains (s ∷ kept total x (o -ℤ pos 1) n) t) (sym here) (contains_head t (kept total x (o -ℤ pos 1) n))))
    (λ other.
    let rest =
    kept_all total x (o -ℤ pos 1) n t r (lower _ _ n h (λ e. false_true (sym other ∙ eq_pass _ _ e))) (one_less _ _ n k) in
    ⊎_elim {C = Contains (kept total x o (suc n)) t}
    (λ is. subst (λ l. Contains l t) (sym (kept_takes total x o n is))
    (contains_more (instant_at x o) (kept total x (o -ℤ pos 1) n) t rest))
    (λ is. subst (λ l. Contains l t) (sym (kept_skips total x o n is)) rest)
    (cases_Bool (reads total x o)))
    (cases_Bool (int_eq (total t) o))
  where
    false_true : false ≡ true → ⊥
    false_true e = cc

in_count : (o : ℤ) → IsOffset o → pos greatest_offset <ℤ (o +ℤ pos offset_count)
unfolding offset_count
in_count o h = omega (arith, ints, offset_least o h)

-- the list that tries every offset is the rising list of the instants that read as x
pub instants_are : (total : ℤ → ℤ) (x : ℤ) → ((t : ℤ) → IsOffset (total t)) → AreInstants total x (instants total x)
unfolding instants offsets
instants_are total x h = record {
  rising = kept_rises total x (pos greatest_offset) offset_count;
  exact = λ t. (
    kept_reads total x (pos greatest_offset) offset_count t,
    λ r. kept_all total x (pos greatest_offset) offset_count t r (offset_greatest (total t) (h t)) (in_count _ (h t)),
  );
}

-- there is no other such list
pub one_list : (total : ℤ → ℤ) (x : ℤ) (ts us : List ℤ) → AreInstants total x ts → AreInstants total x us → ts ≡ us
one_list total x ts us are also =
    same_rising ts us are.rising also.rising (λ t c. (also.exact t).1 ((are.exact t).0 c))
    (λ t c. (are.exact t).1 ((also.exact t).0 c))

-- so it is the one that tries every offset
pub instants_one : (total : ℤ → ℤ) (x : ℤ) (ts : List ℤ) → ((t : ℤ) → IsOffset (total t)) → AreInstants total x ts → instants total x ≡ ts
instants_one total x ts h are = one_list total x (instants total x) ts (instants_are total x h) are

-- what is made of those that pass a test is no more than they are
pub few_pass : {X Y : Type 0} (f : X → Y) (p : X → Bool) (xs : List X) → length (map f (filter p xs)) ≤ length xs
few_pass f p [] = omega arith
few_pass {X} f p (x ∷ xs) = by_test (p x) (few_pass f p xs)
  where
    by_test : (b : Bool) → length (map f (filter p xs)) ≤ length xs → length (map f (cond b (x ∷ filter p xs) (filter p xs))) ≤ length (x ∷ xs)
    by_test true h = omega (arith, h)
    by_test false h = omega (arith, h)

down_count : (o : ℤ) (n : ℕ) → length (down_from o n) ≡ n
down_count o zero = refl
down_count o (suc n) = ap suc (down_count (o -ℤ pos 1) n)

-- there is at most one for each offset
pub few_instants : (total : ℤ → ℤ) (x : ℤ) → length (all_in_force total x) ≤ 187199
unfolding all_in_force instants offsets offset_count
few_instants total x =
    omega (arith, length-map (instants total x) (in_force total), few_pass (instant_at x) (reads total x) offsets, down_count (pos greatest_offset) offset_count)
