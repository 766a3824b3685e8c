-- Agreement from a span on, by the spans: each step of the walk.
use Rattle.std.proofs.{Common.{◌≡◌, ◌↔◌, ℕ, zero, suc, ◌+◌, ◌-◌, ◌<◌, ◌≤◌, length, ℤ, pos, ◌*ℤ◌, ◌≤ℤ◌, ◌<ℤ◌, refl, sym, ap, ◌∙◌, subst, ⊎_elim, arith}, lemmas.Int.{ints, by_lt_z}, lemmas.Bool.{cases_lt}}
use Rattle.basics.specs.ComparisonLaws.{le_le}
use Rattle.civil_base.specs.Instants.{seconds_of}
use Rattle.zone_spans.specs.Schedules.{Schedule}
use Rattle.tz_lookup.specs.{SecondLaws.{total_is}, Spans.{TimesDontFall, shift_at, total_of, total_from}}
use Rattle.zone_tail.specs.{Agreement.{Agrees, AgreesIn, AgreesFrom, IsWalked}, Candidates.{candidate_total, total_by, IsAllowed, ReachesTo, IsFixed}, Totals.{HasBegun, Lasts}, declared.candidate.Candidate.{Candidate}}
use Rattle.zone_tail.specs.declared.candidate.Candidate.TheVariants.{Fixed, Ruled}
use Rattle.zone_tail.proofs.{SecondLemmas.{before_both, seconds_of-whole}, SpanLemmas.{total_in_span, begun_down}}

module _ (candidate : Candidate) (zone : Schedule) (last : ℤ) (times : TimesDontFall zone.shifts) where
  -- one more span in front
  pub one_more : (k : ℕ) → k ≤ length zone.shifts → AgreesIn candidate zone last k → (k < length zone.shifts → AgreesFrom candidate zone last (suc k)) → AgreesFrom candidate zone last k
  one_more k l here rest = record { alike = λ s h m. by_span s h m }
    where
      in_span : (s : ℤ) → HasBegun zone.shifts k s → s <ℤ last → Lasts zone.shifts k s → total_by candidate s ≡ total_from zone.first zone.shifts s
      in_span s h m lasts = here.alike s h lasts m ∙ sym (total_in_span zone.shifts times zone.first k s l h lasts)

      by_span : (s : ℤ) → HasBegun zone.shifts k s → s <ℤ last → total_by candidate s ≡ total_from zone.first zone.shifts s
      by_span s h m = by_lt_z {P = total_by candidate s ≡ total_from zone.first zone.shifts s} s (shift_at zone.shifts k).0
          (λ lt. in_span s h m (λ inside. lt))
          (λ le. ⊎_elim {C = total_by candidate s ≡ total_from zone.first zone.shifts s} (λ inside. (rest inside).alike s le m) (λ outside. in_span s h m (λ inside. absurd (omega (arith, inside, outside)))) (cases_lt k (length zone.shifts)))

  -- a span alone, of what agrees from it on
  pub span_alone : (k : ℕ) → k ≤ length zone.shifts → AgreesFrom candidate zone last k → AgreesIn candidate zone last k
  span_alone k l from = record { alike = λ s h lasts m. from.alike s h m ∙ total_in_span zone.shifts times zone.first k s l h lasts }

  -- agreement from a span on is agreement from each later one
  pub from_later : (j k : ℕ) → j ≤ k → k ≤ length zone.shifts → AgreesFrom candidate zone last j → AgreesFrom candidate zone last k
  from_later j k l m from = record { alike = λ s h n. from.alike s (begun_down zone.shifts times j k s l m h) n }

  -- one more span that goes on
  pub walked_more : (f : ℕ) → 0 < f → f ≤ length zone.shifts + 1 → IsAllowed candidate zone (f - 1) × AgreesIn candidate zone last (f - 1)
      → ((k : ℕ) → f ≤ k → k ≤ length zone.shifts → IsAllowed candidate zone k × AgreesFrom candidate zone last k)
      → (k : ℕ) → f - 1 ≤ k → k ≤ length zone.shifts → IsAllowed candidate zone k × AgreesFrom candidate zone last k
  walked_more f some l here later k m n = ⊎_elim {C = IsAllowed candidate zone k × AgreesFrom candidate zone last k}
      (λ lt.
      let e : f - 1 ≡ k = omega arith in
      let from = one_more (f - 1) (omega arith) here.1 (λ inside. (later (suc (f - 1)) (omega arith) (omega arith)).1) in
      (subst (IsAllowed candidate zone) e here.0, subst (AgreesFrom candidate zone last) e from))
      (λ le. later k le n)
      (cases_lt k f)

  -- what is allowed from a span is allowed from a later one
  allowed_up : (j k : ℕ) → j ≤ k → k ≤ length zone.shifts → IsAllowed candidate zone j → IsAllowed candidate zone k
  allowed_up zero zero l m allowed = allowed
  allowed_up zero (suc k) l m allowed = (omega arith, always candidate allowed)
    where
      always : (v : Candidate) → IsAllowed v zone zero → ReachesTo v (shift_at zone.shifts k).0
      always (Fixed total) h = tt
      always (Ruled rule) h = absurd h
  allowed_up (suc j) zero l m allowed = absurd (omega arith)
  allowed_up (suc j) (suc k) l m allowed = (omega arith, later candidate allowed.1)
    where
      later : (v : Candidate) → ReachesTo v (shift_at zone.shifts j).0 → ReachesTo v (shift_at zone.shifts k).0
      later (Fixed total) h = tt
      later (Ruled rule) h = le_le _ _ _ h (times j k (omega arith) (omega arith))

  -- of what stopped there, no span before it agrees
  pub none_before : (n : ℕ) → IsWalked candidate zone last n → (k : ℕ) → k < n → IsAllowed candidate zone k → AgreesFrom candidate zone last k → ⊥
  none_before zero walked k l allowed from = absurd (omega arith)
  none_before (suc i) walked k l allowed from =
      let inside : i ≤ length zone.shifts = omega (arith, walked.within) in
      walked.stops i refl (allowed_up k i (omega arith) inside allowed) (span_alone i inside (from_later k i (omega arith) inside from))

-- low, high and total: what was computed of the span k, which an entry begins
module _ (candidate : Candidate) (zone : Schedule) (last : ℤ) (k : ℕ) (low high total : ℤ) (some : 0 < k)
    (at : low ≡ (shift_at zone.shifts (k - 1)).0) (is : total ≡ total_of zone.first zone.shifts k)
    (ends : (s : ℤ) → s <ℤ high ↔ (Lasts zone.shifts k s × (s <ℤ last))) where
  begun_is : HasBegun zone.shifts k ≡ (λ s. low ≤ℤ s)
  begun_is = by_number k some (at ∙ refl)
    where
      by_number : (k : ℕ) → 0 < k → low ≡ (shift_at zone.shifts (k - 1)).0 → HasBegun zone.shifts k ≡ (λ s. low ≤ℤ s)
      by_number zero l e = absurd (omega arith)
      by_number (suc i) l e =
          let back : suc i - 1 ≡ i = omega arith in
          let same : (shift_at zone.shifts i).0 ≡ low = ap (λ j. (shift_at zone.shifts j).0) (sym back) ∙ sym e in
          λ t s. same t ≤ℤ s

  pub in_span : ((s : ℤ) → low ≤ℤ s → s <ℤ high → total_by candidate s ≡ total) → AgreesIn candidate zone last k
  in_span alike = record { alike = λ s h lasts m. alike s (subst (λ (B : ℤ → Type 0). B s) begun_is h) ((ends s).1 (lasts, m)) ∙ is }

  pub span_in : AgreesIn candidate zone last k → (s : ℤ) → low ≤ℤ s → s <ℤ high → total_by candidate s ≡ total
  span_in agrees s h m =
      let both = (ends s).0 m in
      agrees.alike s (subst (λ (B : ℤ → Type 0). B s) (sym begun_is) h) both.0 both.1 ∙ sym is

  -- nothing is asked of a span that has no second
  pub in_no_span : high ≤ℤ low → AgreesIn candidate zone last k
  in_no_span none = in_span (λ s h m. absurd (no_second low high s none h m))
    where
      no_second : (l h s : ℤ) → h ≤ℤ l → l ≤ℤ s → s <ℤ h → ⊥
      no_second l h s a b c = omega (arith, ints)

-- by instants and by seconds
module _ (candidate : Candidate) (zone : Schedule) (last : ℤ) where
  pub by_instants : (k : ℕ) → AgreesFrom candidate zone last k → Agrees candidate zone last k
  unfolding candidate_total
  by_instants k from = record { alike = λ t h m. from.alike (seconds_of t) h m ∙ sym (total_is zone t) }

  pub by_seconds : (k : ℕ) → Agrees candidate zone last k → AgreesFrom candidate zone last k
  unfolding candidate_total
  by_seconds k all = record {
    alike = λ s h m.
        let at = seconds_of-whole s in
        ap (total_by candidate) (sym at)
        ∙ all.alike (pos 1000000000 *ℤ s) (subst (HasBegun zone.shifts k) (sym at) h) (subst (λ x. x <ℤ last) (sym at) m)
        ∙ total_is zone (pos 1000000000 *ℤ s)
        ∙ ap (total_from zone.first zone.shifts) at;
  }

  module _ (times : TimesDontFall zone.shifts) (n : ℕ) (walked : IsWalked candidate zone last n) where
    pub no_earlier : (k : ℕ) → k < n → IsAllowed candidate zone k → Agrees candidate zone last k → ⊥
    no_earlier k l allowed agrees = none_before candidate zone last times n walked k l allowed (by_seconds k agrees)

    -- what was walked to
    pub agrees_there : n ≤ length zone.shifts → IsAllowed candidate zone n × Agrees candidate zone last n
    agrees_there l =
        let here = walked.later n (omega arith) l in
        (here.0, by_instants n here.1)

    pub none_is : length zone.shifts < n → (k : ℕ) → IsAllowed candidate zone k → Agrees candidate zone last k → ⊥
    none_is l zero allowed = no_earlier zero (omega arith) allowed
    none_is l (suc k) allowed = no_earlier (suc k) (omega (arith, allowed.0)) allowed

-- before the first entry
module _ (candidate : Candidate) (zone : Schedule) (last : ℤ) where
  pub in_first : ((s : ℤ) → total_by candidate s ≡ zone.first) → AgreesIn candidate zone last 0
  in_first alike = record { alike = λ s h lasts m. alike s }

  pub first_in : IsFixed candidate → AgreesIn candidate zone last 0 → (s : ℤ) → total_by candidate s ≡ zone.first
  first_in fixed agrees = by_cases candidate fixed agrees
    where
      by_cases : (v : Candidate) → IsFixed v → AgreesIn v zone last 0 → (s : ℤ) → total_by v s ≡ zone.first
      by_cases (Ruled rule) h k s = absurd h
      by_cases (Fixed total) h k s =
          let e = before_both (shift_at zone.shifts 0).0 last in
          k.alike e.0 tt (λ some. e.1) e.2
