-- Spans that contain a local time, and the instants that read as it.
use Rattle.std.proofs.{Common.{◌≡◌, ℕ, zero, suc, ◌<◌, List, [], ◌∷◌, map, ℤ, pos, ◌+ℤ◌, ◌-ℤ◌, ◌*ℤ◌, ◌<ℤ◌, refl, sym, ap, ◌∙◌, subst, ◌⊎◌, ⊎_elim, inl, inr, arith}, lemmas.Int.{ints}, lemmas.Bool.{cases_lt}}
use Rattle.std.specs.Prelude.{Contains, AllPairs, IsTrue}
use Rattle.civil_base.specs.Instants.{seconds_of, instant_at}
use Rattle.zone_spans.specs.{Schedules.{Schedule, total_at, is_in_offset_range}, ScheduleLaws.{total_is_offset}}
use Rattle.tz_lookup.{specs.{Spans.{total_of, IsIn, TimesDontFall, IsOrderly, total_from}, InForce.{totals_at, AreInstants}, RisingLaws.{pairs_more, contains_head, contains_more}, InstantLaws.{from_reading, instants_one}, SecondLaws.{seconds_of-instant_at, total_is}}, proofs.SpanLemmas.{total_in, span_of, total_falls, neighbours}}

abbrev pub Holds : Schedule → ℕ → ℤ → Type 0
Holds zone k x = IsIn zone.first zone.shifts k (seconds_of x)

abbrev pub total : Schedule → ℕ → ℤ
total zone k = total_of zone.first zone.shifts k

-- the totals of the spans that contain x, in the order of the spans
pub record AreSpanTotals (zone : Schedule) (x : ℤ) (os : List ℤ) : Type 0 where
  pub fall : AllPairs (λ p q. q <ℤ p) os
  pub there : (k : ℕ) → Holds zone k x → Contains os (total zone k)
  pub back : (o : ℤ) → Contains os o → (k : ℕ) × Holds zone k x × (total zone k ≡ o)

pub contains_map : {X : Type 0} (f : X → ℤ) (xs : List X) (x : X) → Contains xs x → Contains (map f xs) (f x)
contains_map f [] x c = absurd (omega (arith, c.1))
contains_map f (y ∷ ys) x (zero, l, e) = (0, omega arith, ap f e)
contains_map f (y ∷ ys) x (suc k, l, e) = contains_more (f y) (map f ys) (f x) (contains_map f ys x (k, omega (arith, l), e))

pub map_contains : {X : Type 0} (f : X → ℤ) (xs : List X) (y : ℤ) → Contains (map f xs) y → (x : X) × Contains xs x × (f x ≡ y)
map_contains f [] y c = absurd (omega (arith, c.1))
map_contains f (x ∷ xs) y (zero, l, e) = (x, contains_head x xs, e)
map_contains f (x ∷ xs) y (suc k, l, e) =
    let rest = map_contains f xs y (k, omega (arith, l), e) in
    (rest.0, contains_more x xs rest.0 rest.1, rest.2)

later_from_lower : (x p q : ℤ) → q <ℤ p → instant_at x p <ℤ instant_at x q
later_from_lower x p q h = omega (arith, ints)

back_rises : (x : ℤ) (os : List ℤ) → AllPairs (λ p q. q <ℤ p) os → AllPairs (λ s t. s <ℤ t) (map (instant_at x) os)
back_rises x [] h = λ i j d l m. absurd (omega (arith, m))
back_rises x (o ∷ os) h =
    pairs_more (λ s t. s <ℤ t) (instant_at x o) (map (instant_at x) os)
    (λ t c. let from = map_contains (instant_at x) os t c in
    subst (λ s. instant_at x o <ℤ s) from.2
    (later_from_lower x o from.0 (subst (λ q. q <ℤ o) from.1.2 (h 0 (suc from.1.0) from.0 (omega arith) (omega (arith, from.1.1))))))
    (back_rises x os (λ i j d l m. h (suc i) (suc j) d (omega arith) (omega (arith, m))))

-- where a span contains x, x less its total is an instant with that total
pub total_at_span : (zone : Schedule) (x : ℤ) (k : ℕ) → TimesDontFall zone.shifts → Holds zone k x
    → total_at zone (instant_at x (total zone k)) ≡ total zone k
total_at_span zone x k times h =
    total_is zone (instant_at x (total zone k)) ∙ ap (total_from zone.first zone.shifts) (seconds_of-instant_at x (total zone k))
    ∙ total_in zone.first zone.shifts k (seconds_of x) times h

at_same : (x t o p : ℤ) → instant_at x o ≡ t → p ≡ o → (t +ℤ pos 1000000000 *ℤ p) ≡ x
at_same x t o p e f = omega (arith, ints, e, f)

seconds_add : (s o x : ℤ) → s ≡ (x -ℤ o) → (s +ℤ o) ≡ x
seconds_add s o x e = omega (arith, ints, e)

-- an instant that reads as x comes of a span
span_at : (zone : Schedule) (x t : ℤ) → TimesDontFall zone.shifts → (t +ℤ pos 1000000000 *ℤ total_at zone t) ≡ x → (k : ℕ)
    × Holds zone k x × (total_at zone t ≡ total zone k)
span_at zone x t times e =
    let o = total_from zone.first zone.shifts (seconds_of t) in
    let e : (t +ℤ pos 1000000000 *ℤ o) ≡ x = ap (λ p. t +ℤ pos 1000000000 *ℤ p) (sym (total_is zone t)) ∙ e in
    let seconds : seconds_of t ≡ (seconds_of x -ℤ o) = ap seconds_of (from_reading x t o e) ∙ seconds_of-instant_at x o in
    let found = span_of zone.first zone.shifts (seconds_of t) (seconds_of x) times (seconds_add _ _ _ seconds) in
    (found.0, found.1, total_is zone t ∙ found.3)

pub span_totals_instants : (zone : Schedule) (x : ℤ) (os : List ℤ) → TimesDontFall zone.shifts → AreSpanTotals zone x os
    → AreInstants (total_at zone) x (map (instant_at x) os)
span_totals_instants zone x os times h = record {
  rising = back_rises x os h.fall;
  exact = λ t. (
    (λ c.
        let from = map_contains (instant_at x) os t c in
        let span = h.back from.0 from.1 in
        let same : total_at zone t ≡ from.0 =
        ap (total_at zone) (sym from.2) ∙ ap (λ o. total_at zone (instant_at x o)) (sym span.2)
        ∙ total_at_span zone x span.0 times span.1 ∙ span.2 in
        at_same x t from.0 (total_at zone t) from.2 same),
    (λ r.
        let span = span_at zone x t times r in
        let is : t ≡ instant_at x (total zone span.0) = from_reading x t (total_at zone t) r ∙ ap (instant_at x) span.2 in
        subst (λ s. Contains (map (instant_at x) os) s) (sym is)
        (contains_map (instant_at x) os (total zone span.0) (h.there span.0 span.1))),
  );
}

totals_back : (zone : Schedule) (x : ℤ) (os : List ℤ) → ((o : ℤ) → Contains os o → total_at zone (instant_at x o) ≡ o)
    → map (total_at zone) (map (instant_at x) os) ≡ os
totals_back zone x [] h = refl
totals_back zone x (o ∷ os) h =
    let head = h o (contains_head o os) in
    let tail = totals_back zone x os (λ p c. h p (contains_more o os p c)) in
    (λ i. head i ∷ tail i)

-- the totals at the instants that read as x are those of the spans that contain x, in order
pub span_totals : (zone : Schedule) (x : ℤ) (os : List ℤ) → TimesDontFall zone.shifts → IsTrue (is_in_offset_range zone)
    → AreSpanTotals zone x os → totals_at (total_at zone) x ≡ os
unfolding totals_at
span_totals zone x os times range h =
    ap (map (total_at zone))
    (instants_one (total_at zone) x (map (instant_at x) os) (λ t. total_is_offset zone t range)
    (span_totals_instants zone x os times h))
    ∙ totals_back zone x os (λ o c. let span = h.back o c in
    ap (λ p. total_at zone (instant_at x p)) (sym span.2) ∙ total_at_span zone x span.0 times span.1 ∙ span.2)

pub none_holds : (zone : Schedule) (x : ℤ) → TimesDontFall zone.shifts → IsTrue (is_in_offset_range zone) → ((k : ℕ) → Holds zone k x → ⊥)
    → totals_at (total_at zone) x ≡ []
none_holds zone x times range none = span_totals zone x [] times range (record {
  fall = λ i j d l m. absurd (omega (arith, m));
  there = λ k h. absurd (none k h);
  back = λ o c. absurd (omega (arith, c.1));
})

in_one : (o p : ℤ) → Contains (o ∷ []) p → o ≡ p
in_one o p (zero, l, e) = e
in_one o p (suc k, l, e) = absurd (omega (arith, l))

pub one_holds : (zone : Schedule) (x : ℤ) (k : ℕ) → TimesDontFall zone.shifts → IsTrue (is_in_offset_range zone) → Holds zone k x
    → ((j : ℕ) → Holds zone j x → j ≡ k) → totals_at (total_at zone) x ≡ total zone k ∷ []
one_holds zone x k times range here only = span_totals zone x (total zone k ∷ []) times range (record {
  fall = λ i j d l m. absurd (omega (arith, m));
  there = λ j h. subst (λ o. Contains (total zone k ∷ []) o) (ap (total zone) (sym (only j h))) (contains_head (total zone k) []);
  back = λ o c. (k, here, in_one _ _ c);
})

in_two : {P : Type 0} (o p q : ℤ) → Contains (o ∷ p ∷ []) q → (o ≡ q → P) → (p ≡ q → P) → P
in_two o p q (zero, l, e) first second = first e
in_two o p q (suc zero, l, e) first second = second e
in_two o p q (suc (suc k), l, e) first second = absurd (omega (arith, l))

two_fall : (o p : ℤ) → p <ℤ o → AllPairs (λ s t. t <ℤ s) (o ∷ p ∷ [])
two_fall o p h zero zero d l m = absurd (omega arith)
two_fall o p h zero (suc zero) d l m = h
two_fall o p h zero (suc (suc j)) d l m = absurd (omega (arith, m))
two_fall o p h (suc i) zero d l m = absurd (omega arith)
two_fall o p h (suc i) (suc j) d l m = absurd (omega (arith, l, m))

pub two_hold : (zone : Schedule) (x : ℤ) (i j : ℕ) → TimesDontFall zone.shifts → IsTrue (is_in_offset_range zone) → i < j → Holds zone i x
    → Holds zone j x → ((k : ℕ) → Holds zone k x → (k ≡ i) ⊎ (k ≡ j)) → totals_at (total_at zone) x ≡ total zone i ∷ total zone j ∷ []
two_hold zone x i j times range l first second only =
    let os = total zone i ∷ total zone j ∷ [] in
    span_totals zone x os times range (record {
      fall = two_fall _ _ (total_falls zone.first zone.shifts i j (seconds_of x) times l first second);
      there = λ k h. ⊎_elim {C = Contains os (total zone k)}
          (λ e. subst (λ o. Contains os o) (ap (total zone) (sym e)) (contains_head (total zone i) (total zone j ∷ [])))
          (λ e. subst (λ o. Contains os o) (ap (total zone) (sym e))
          (contains_more (total zone i) (total zone j ∷ []) (total zone j) (contains_head (total zone j) [])))
          (only k h);
      back = λ o c. in_two {P = (k : ℕ) × Holds zone k x × (total zone k ≡ o)} _ _ o c (λ e. (i, first, e)) (λ e. (j, second, e));
    })

-- beside a span that contains x, only the one before and the one after may contain it, and not both
pub before_holds : (zone : Schedule) (x : ℤ) (k : ℕ) → TimesDontFall zone.shifts → IsTrue (is_in_offset_range zone)
    → IsOrderly zone.first zone.shifts → Holds zone k x → Holds zone (suc k) x
    → totals_at (total_at zone) x ≡ total zone k ∷ total zone (suc k) ∷ []
before_holds zone x k times range orderly h g =
    let near = neighbours zone.first zone.shifts in
    two_hold zone x k (suc k) times range (omega arith) h g (λ j at.
    ⊎_elim {C = (j ≡ k) ⊎ (j ≡ suc k)}
    (λ l. let m = near j (suc k) (seconds_of x) orderly (omega arith) at g in inl (omega (arith, m)))
    (λ l. let m = near k j (seconds_of x) orderly (omega arith) h at in inr (omega (arith, m)))
    (cases_lt j (suc k)))

pub alone_holds : (zone : Schedule) (x : ℤ) (k : ℕ) → TimesDontFall zone.shifts → IsTrue (is_in_offset_range zone)
    → IsOrderly zone.first zone.shifts → Holds zone k x → ((j : ℕ) → suc j ≡ k → Holds zone j x → ⊥) → (Holds zone (suc k) x → ⊥)
    → totals_at (total_at zone) x ≡ total zone k ∷ []
alone_holds zone x k times range orderly h no_before no_after =
    let near = neighbours zone.first zone.shifts in
    one_holds zone x k times range h (λ j at.
    ⊎_elim {C = j ≡ k}
    (λ l. let m = near j k (seconds_of x) orderly (omega arith) at h in absurd (no_before j (omega (arith, m)) at))
    (λ l. let m = near k j (seconds_of x) orderly (omega arith) h at in
    ⊎_elim {C = j ≡ k} (λ same. omega arith) (λ after. absurd (no_after (subst (λ n. Holds zone n x) (omega (arith, m)) at)))
    (cases_lt j (suc k)))
    (cases_lt j k))
