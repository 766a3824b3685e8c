-- Looking at each span in turn gives the instants by time, on every zone.
use Rattle.std.proofs.{Common.{◌≡◌, ℕ, zero, suc, ◌+◌, ◌-◌, ◌<◌, ◌≤◌, Bool, true, false, cond, List, [], ◌∷◌, length, map, take, ℤ, ◌<ℤ◌, refl, sym, ap, ◌∙◌, subst, ⊎_elim, arith}, lemmas.Bool.{cases_lt, cases_Bool}, lemmas.List.{take-map, length-map}}
use Rattle.std.specs.{Prelude.{Contains, AllPairs}, Ordering.{is_eq}, declared.cmp.Ordering.{Ordering}, declared.cmp.Ordering.TheVariants.{Less, Equal, Greater}}
use Rattle.civil_base.specs.Instants.{seconds_of}
use Rattle.zone_spans.specs.Schedules.{Schedule, total_at, instants}
use Rattle.tz_lookup.{specs.{InForce.{totals_at}, Spans.{IsIn, IsOrderly}, Sets.{IsAccepted, order_of}, Scans.{spans_from}, RisingLaws.{pairs_more, contains_head, contains_more, cases_more}}, proofs.{SpanLemmas.{total_falls, neighbours}, AnswerLemmas.{Holds, total, span_totals, map_contains, contains_map}, OrderLemmas.{in_order, order_in}}}

-- no span is found twice
pub few_spans : (zone : Schedule) (x : ℤ) (k n : ℕ) → length (spans_from zone x k n) ≤ n
few_spans zone x k zero = omega arith
few_spans zone x k (suc n) = by_test (is_eq (order_of zone k x)) (few_spans zone x (suc k) n)
  where
    rest : List ℕ
    rest = spans_from zone x (suc k) n

    by_test : (b : Bool) → length rest ≤ n → length (cond b (k ∷ rest) rest) ≤ suc n
    by_test true few = omega (arith, few)
    by_test false few = omega (arith, few)

pub lies_there : (o : Ordering) → is_eq o ≡ true → o ≡ Equal
lies_there Less e = absurd (cc)
lies_there Equal e = refl
lies_there Greater e = absurd (cc)

takes : (zone : Schedule) (x : ℤ) (k n : ℕ) → is_eq (order_of zone k x) ≡ true
    → spans_from zone x k (suc n) ≡ k ∷ spans_from zone x (suc k) n
takes zone x k n e = ap (λ b. cond b (k ∷ spans_from zone x (suc k) n) (spans_from zone x (suc k) n)) e

skips : (zone : Schedule) (x : ℤ) (k n : ℕ) → is_eq (order_of zone k x) ≡ false
    → spans_from zone x k (suc n) ≡ spans_from zone x (suc k) n
skips zone x k n e = ap (λ b. cond b (k ∷ spans_from zone x (suc k) n) (spans_from zone x (suc k) n)) e

pub record IsFound (zone : Schedule) (x : ℤ) (k n j : ℕ) : Type 0 where
  pub from : k ≤ j
  pub to : j < k + n
  pub lies : order_of zone j x ≡ Equal

later : (zone : Schedule) (x : ℤ) (k n j : ℕ) → IsFound zone x (suc k) n j → IsFound zone x k (suc n) j
later zone x k n j h = record { from = omega (arith, h.from); to = omega (arith, h.to); lies = h.lies }

found : (zone : Schedule) (x : ℤ) (k n j : ℕ) → Contains (spans_from zone x k n) j → IsFound zone x k n j
found zone x k zero j c = absurd (omega (arith, c.1))
found zone x k (suc n) j c =
    ⊎_elim {C = IsFound zone x k (suc n) j}
    (λ e. cases_more k (spans_from zone x (suc k) n) j (subst (λ l. Contains l j) (takes zone x k n e) c)
    (λ is. subst (λ m. IsFound zone x k (suc n) m) is (record { from = omega arith; to = omega arith; lies = lies_there _ e }))
    (λ d. later zone x k n j (found zone x (suc k) n j d)))
    (λ e. later zone x k n j (found zone x (suc k) n j (subst (λ l. Contains l j) (skips zone x k n e) c)))
    (cases_Bool (is_eq (order_of zone k x)))

finds : (zone : Schedule) (x : ℤ) (k n j : ℕ) → IsFound zone x k n j → Contains (spans_from zone x k n) j
finds zone x k zero j h = absurd (omega (arith, h.from, h.to))
finds zone x k (suc n) j h =
    let rest : k < j → Contains (spans_from zone x (suc k) n) j =
    λ l. finds zone x (suc k) n j (record { from = omega arith; to = omega (arith, h.to); lies = h.lies }) in
    ⊎_elim {C = Contains (spans_from zone x k (suc n)) j}
    (λ e. subst (λ l. Contains l j) (sym (takes zone x k n e))
    (⊎_elim {C = Contains (k ∷ spans_from zone x (suc k) n) j}
    (λ l. contains_more k (spans_from zone x (suc k) n) j (rest l))
    (λ l. let same : k ≡ j = omega (arith, h.from) in subst (λ m. Contains (k ∷ spans_from zone x (suc k) n) m) same
    (contains_head k (spans_from zone x (suc k) n)))
    (cases_lt k j)))
    (λ e. subst (λ l. Contains l j) (sym (skips zone x k n e))
    (⊎_elim {C = Contains (spans_from zone x (suc k) n) j} rest
    (λ l. let same : j ≡ k = omega (arith, h.from) in let yes = ap is_eq (sym (ap (λ m. order_of zone m x) same) ∙ h.lies) in absurd
    (let no = e in cc))
    (cases_lt k j)))
    (cases_Bool (is_eq (order_of zone k x)))

module _ (zone : Schedule) (x s : ℤ) (at : seconds_of x ≡ s) (accepted : IsAccepted zone) where
  holds : (k n j : ℕ) → k + n ≡ length zone.shifts + 1 → IsFound zone s k n j → Holds zone j x
  holds k n j size h = subst (λ y. IsIn zone.first zone.shifts j y) (sym at) (in_order zone j s (omega (arith, size, h.to)) h.lies)

  -- each total is above those of the spans after it
  totals_fall : (k n : ℕ) → k + n ≡ length zone.shifts + 1 → AllPairs (λ p q. q <ℤ p) (map (total zone) (spans_from zone s k n))
  totals_fall k zero size = λ i j d l m. absurd (omega (arith, m))
  totals_fall k (suc n) size =
      let less = totals_fall (suc k) n (omega (arith, size)) in
      ⊎_elim {C = AllPairs (λ p q. q <ℤ p) (map (total zone) (spans_from zone s k (suc n)))}
      (λ e. subst (λ l. AllPairs (λ p q. q <ℤ p) (map (total zone) l)) (sym (takes zone s k n e))
      (pairs_more (λ p q. q <ℤ p) (total zone k) (map (total zone) (spans_from zone s (suc k) n)) (λ o c.
      let from = map_contains (total zone) (spans_from zone s (suc k) n) o c in
      let is = found zone s (suc k) n from.0 from.1 in
      let here : IsFound zone s k (suc n) k = record { from = omega arith; to = omega arith; lies = lies_there _ e } in
      subst (λ q. q <ℤ total zone k) from.2
      (total_falls zone.first zone.shifts k from.0 (seconds_of x) accepted.times (omega (arith, is.from)) (holds k (suc n) k size here)
      (holds (suc k) n from.0 (omega (arith, size)) is))) less))
      (λ e. subst (λ l. AllPairs (λ p q. q <ℤ p) (map (total zone) l)) (sym (skips zone s k n e)) less)
      (cases_Bool (is_eq (order_of zone k s)))

  -- the totals of all spans that are found are those at the instants, by time
  pub scan_totals : totals_at (total_at zone) x ≡ map (total zone) (spans_from zone s 0 (length zone.shifts + 1))
  scan_totals =
      let n = length zone.shifts + 1 in
      let size : 0 + n ≡ length zone.shifts + 1 = omega arith in
      span_totals zone x (map (total zone) (spans_from zone s 0 n)) accepted.times accepted.range (record {
        fall = totals_fall 0 n size;
        there = λ k h. contains_map (total zone) (spans_from zone s 0 n) k
            (finds zone s 0 n k (record {
              from = omega arith;
              to = omega (arith, h.within);
              lies = order_in zone k s
                  (subst (λ y. IsIn zone.first zone.shifts k y) at h);
            }));
        back = λ o c.
            let from = map_contains (total zone) (spans_from zone s 0 n) o c in
            (from.0, holds 0 n from.0 size (found zone s 0 n from.0 from.1), from.2);
      })

not_there : (o : Ordering) → (o ≡ Equal → ⊥) → is_eq o ≡ false
not_there Less h = refl
not_there Equal h = absurd (h refl)
not_there Greater h = refl

pub step_takes : (zone : Schedule) (x : ℤ) (count i : ℕ) → i < count → order_of zone i x ≡ Equal
    → spans_from zone x i (count - i) ≡ i ∷ spans_from zone x (i + 1) (count - (i + 1))
step_takes zone x count i l e =
    let size : count - i ≡ suc (count - (i + 1)) = omega arith in
    let next : suc i ≡ i + 1 = omega arith in
    ap (spans_from zone x i) size ∙ takes zone x i (count - (i + 1)) (ap is_eq e)
    ∙ ap (λ k. i ∷ spans_from zone x k (count - (i + 1))) next

pub step_skips : (zone : Schedule) (x : ℤ) (count i : ℕ) → i < count → (order_of zone i x ≡ Equal → ⊥)
    → spans_from zone x i (count - i) ≡ spans_from zone x (i + 1) (count - (i + 1))
step_skips zone x count i l e =
    let size : count - i ≡ suc (count - (i + 1)) = omega arith in
    let next : suc i ≡ i + 1 = omega arith in
    ap (spans_from zone x i) size ∙ skips zone x i (count - (i + 1)) (not_there _ e)
    ∙ ap (λ k. spans_from zone x k (count - (i + 1))) next

pub first_two : (b i : ℕ) (here rest whole : List ℕ) → here ≡ i ∷ rest → b ∷ here ≡ whole → b ∷ i ∷ [] ≡ take 2 whole
first_two b i here rest whole e f = ap (λ l. take 2 (b ∷ l)) (sym e) ∙ ap (take 2) f

-- the first two that are found have the totals at the first two instants
pub first_totals : (zone : Schedule) (x s : ℤ) (ks : List ℕ) → seconds_of x ≡ s → IsAccepted zone
    → ks ≡ take 2 (spans_from zone s 0 (length zone.shifts + 1)) → map (total zone) ks ≡ take 2 (totals_at (total_at zone) x)
first_totals zone x s ks at accepted e =
    ap (map (total zone)) e ∙ sym (take-map (total zone) 2 (spans_from zone s 0 (length zone.shifts + 1)))
    ∙ ap (take 2) (sym (scan_totals zone x s at accepted))

found_rise : (zone : Schedule) (x : ℤ) (k n : ℕ) → AllPairs (λ i j. i < j) (spans_from zone x k n)
found_rise zone x k zero = λ i j d l m. absurd (omega (arith, m))
found_rise zone x k (suc n) =
    let less = found_rise zone x (suc k) n in
    ⊎_elim {C = AllPairs (λ i j. i < j) (spans_from zone x k (suc n))}
    (λ e. subst (AllPairs (λ i j. i < j)) (sym (takes zone x k n e))
    (pairs_more (λ i j. i < j) k (spans_from zone x (suc k) n)
    (λ j c. let is = found zone x (suc k) n j c in omega (arith, is.from)) less))
    (λ e. subst (AllPairs (λ i j. i < j)) (sym (skips zone x k n e)) less)
    (cases_Bool (is_eq (order_of zone k x)))

at_most_two : (ks : List ℕ) → AllPairs (λ i j. i < j) ks → ((i j : ℕ) → Contains ks i → Contains ks j → i ≤ j → j ≤ i + 1) → length ks ≤ 2
at_most_two [] h near = omega arith
at_most_two (a ∷ []) h near = omega arith
at_most_two (a ∷ b ∷ []) h near = omega arith
at_most_two (a ∷ b ∷ c ∷ ks) h near =
    let ab : a < b = h 0 1 0 (omega arith) (omega arith) in
    let bc : b < c = h 1 2 0 (omega arith) (omega arith) in
    let ac =
    near a c (contains_head a (b ∷ c ∷ ks)) (contains_more a (b ∷ c ∷ ks) c (contains_more b (c ∷ ks) c (contains_head c ks)))
    (omega arith) in
    absurd (omega (arith, ac))

-- on an orderly zone no local time has more than two instants
pub orderly_two : (zone : Schedule) (x : ℤ) → IsAccepted zone → IsOrderly zone.first zone.shifts → length (instants (total_at zone) x) ≤ 2
unfolding totals_at
orderly_two zone x accepted orderly =
    let s = seconds_of x in
    let n = length zone.shifts + 1 in
    let ks = spans_from zone s 0 n in
    let size : 0 + n ≡ length zone.shifts + 1 = omega arith in
    let few = at_most_two ks (found_rise zone s 0 n) (λ i j c d l.
    let hi = holds zone x s refl accepted 0 n i size (found zone s 0 n i c) in
    let hj = holds zone x s refl accepted 0 n j size (found zone s 0 n j d) in
    neighbours zone.first zone.shifts i j s orderly l hi hj) in
    let same : length (map (total_at zone) (instants (total_at zone) x)) ≡ length (map (total zone) ks) =
    ap length (scan_totals zone x s refl accepted) in
    omega (arith, few, same, length-map (instants (total_at zone) x) (total_at zone), length-map ks (total zone))
