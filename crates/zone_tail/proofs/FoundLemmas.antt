-- What is chosen is what is found by trying.
use Rattle.std.proofs.Common.{◌≡◌, ℕ, zero, suc, ◌+◌, ◌<◌, ◌≤◌, Bool, true, false, cond, ◌&&◌, nat_lt, List, length, Option, ℤ, pos, ◌+ℤ◌, ◌-ℤ◌, ◌≤ℤ◌, ◌<ℤ◌, int_eq, int_lt, unsigned_abs, refl, sym, ap, ◌∙◌, ⊎_elim, arith}
use Rattle.std.proofs.lemmas.{Bool.{and_from, and_parts, cases_lt, lt-ltb}, Bool.Decides.{nat_tests}, Int.{ints, by_lt_z}}
use Rattle.std.specs.Int.{int_max}
use Rattle.basics.specs.{ComparisonLaws.{le_from_pass, le_pass, lt_from_fail, lt_from_pass, eq_from_pass, eq_pass}, SignedLaws.{natural, signed}}
use Rattle.zone_spans.specs.Schedules.{Schedule}
use Rattle.tz_lookup.specs.{Sets.{IsAccepted, schedule_of, shifts_of}, Spans.{TimesDontFall, shift_at, total_from}, declared.set.FixedTimespanSet.{FixedTimespanSet}, SpanLaws.{total_from_cut}}
use Rattle.zone_tail.specs.{Agreement.{Agrees, AgreesFrom}, Candidates.{total_by, IsAllowed, ReachesTo}, Choices.{candidate_at, IsChoice}, Found.{agrees_from, each_second, first_with, found_from, found_span, found_text, gives_totals, index_from, reaches}}
use Rattle.zone_tail.specs.{LastYear.{form}, Tails.{beginning, candidates, end_of_last_year, names_of, IsTail}, Texts.{text_of}, declared.candidate.Candidate.{Candidate}, declared.candidate.Candidate.TheVariants.{Fixed, Ruled}}
use Rattle.zone_tail.proofs.{SecondLemmas.{before_both}, StepLemmas.{by_instants, by_seconds}}

-- ---- numbers and seconds

first_with-is : (test : ℕ → Bool) (k n j : ℕ) → k ≤ j → j ≤ k + n → (j < k + n → test j ≡ true) → ((m : ℕ) → k ≤ m → m < j → test m ≡ false) → first_with test k n ≡ j
unfolding first_with
first_with-is test k zero j low high here before = omega arith
first_with-is test k (suc n) j low high here before = ⊎_elim {C = cond (test k) k (first_with test (suc k) n) ≡ j}
    (λ lt. ap (λ b. cond b k (first_with test (suc k) n)) (before k (omega arith) lt) ∙ first_with-is test (suc k) n j (omega arith) (omega arith) (λ l. here (omega arith)) (λ m l. before m (omega arith)))
    (λ le. let e : k ≡ j = omega arith in ap (λ b. cond b k (first_with test (suc k) n)) (ap test e ∙ here (omega arith)) ∙ e)
    (cases_lt k j)

-- a number above all that fail comes of none that pass
each_passes : (test : ℤ → Bool) (low : ℤ) (n : ℕ) → each_second test low n ≡ true → (s : ℤ) → low ≤ℤ s → s <ℤ (low +ℤ pos n) → test s ≡ true
unfolding each_second
each_passes test low zero h s l m = absurd (omega (arith, ints))
each_passes test low (suc n) h s l m =
    let parts = and_parts (test low) (each_second test (low +ℤ pos 1) n) h in
    by_lt_z {P = test s ≡ true} low s
    (λ lt. each_passes test (low +ℤ pos 1) n parts.1 s (omega (arith, ints)) (omega (arith, ints)))
    (λ le. let e : low ≡ s = omega (arith, ints) in ap test (sym e) ∙ parts.0)

passes_each : (test : ℤ → Bool) (low : ℤ) (n : ℕ) → ((s : ℤ) → low ≤ℤ s → s <ℤ (low +ℤ pos n) → test s ≡ true) → each_second test low n ≡ true
unfolding each_second
passes_each test low zero h = refl
passes_each test low (suc n) h =
    and_from (test low) (each_second test (low +ℤ pos 1) n) (h low (omega (arith, ints)) (omega (arith, ints)))
    (passes_each test (low +ℤ pos 1) n (λ s l m. h s (omega (arith, ints)) (omega (arith, ints))))

-- as many seconds as lie between
count_high : (low last s : ℤ) → low ≤ℤ s → s <ℤ last → s <ℤ (low +ℤ pos (unsigned_abs (int_max (last -ℤ low) (pos 0))))
count_high low last s l m = by_test (int_lt (pos 0) (last -ℤ low)) refl
  where
    by_test : (b : Bool) → int_lt (pos 0) (last -ℤ low) ≡ b → s <ℤ (low +ℤ pos (unsigned_abs (cond b (last -ℤ low) (pos 0))))
    by_test true h = omega (arith, signed)
    by_test false h = let none = lt_from_fail (pos 0) (last -ℤ low) h in absurd (omega (arith, ints, none))

count_low_by : (low last s : ℤ) (b : Bool) → int_lt (pos 0) (last -ℤ low) ≡ b → low ≤ℤ s
    → s <ℤ (low +ℤ pos (unsigned_abs (cond b (last -ℤ low) (pos 0)))) → s <ℤ last
count_low_by low last s true h l k =
    let some = lt_from_pass (pos 0) (last -ℤ low) h in
    let whole : last -ℤ low ≡ pos (unsigned_abs (last -ℤ low)) = natural (last -ℤ low) (omega (arith, ints, some)) in
    omega (arith, ints, whole, k)
count_low_by low last s false h l k = absurd (omega (arith, ints, l, k))

count_low : (low last s : ℤ) → low ≤ℤ s → s <ℤ (low +ℤ pos (unsigned_abs (int_max (last -ℤ low) (pos 0)))) → s <ℤ last
count_low low last s l m = count_low_by low last s (int_lt (pos 0) (last -ℤ low)) refl l m

module _ (c : Candidate) (zone : Schedule) (last : ℤ) where
  totals_given : (low : ℤ) → gives_totals c zone low last ≡ true → (s : ℤ) → low ≤ℤ s → s <ℤ last → total_by c s ≡ total_from zone.first zone.shifts s
  unfolding gives_totals
  totals_given low h s l m =
      eq_from_pass _ _ (each_passes (λ s. int_eq (total_by c s) (total_from zone.first zone.shifts s)) low _ h s l (count_high low last s l m))

  given_totals : (low : ℤ) → ((s : ℤ) → low ≤ℤ s → s <ℤ last → total_by c s ≡ total_from zone.first zone.shifts s) → gives_totals c zone low last ≡ true
  unfolding gives_totals
  given_totals low h = passes_each (λ s. int_eq (total_by c s) (total_from zone.first zone.shifts s)) low _
      (λ s l m. eq_pass _ _ (h s l (count_low low last s l m)))

-- ---- the tests of candidates

reaches_to : (c : Candidate) (s : ℤ) → reaches c s ≡ true → ReachesTo c s
reaches_to (Fixed total) s h = tt
reaches_to (Ruled rule) s h = le_from_pass _ s h

to_reaches : (c : Candidate) (s : ℤ) → ReachesTo c s → reaches c s ≡ true
to_reaches (Fixed total) s h = refl
to_reaches (Ruled rule) s h = le_pass _ s h

module _ (zone : Schedule) (times : TimesDontFall zone.shifts) (last : ℤ) where
  -- before the first shift the first total holds
  early : (s : ℤ) → s <ℤ (shift_at zone.shifts 0).0 → total_from zone.first zone.shifts s ≡ zone.first
  early s l = total_from_cut zone.first zone.shifts 0 s (record {
    within = omega arith;
    before = λ j m. absurd (omega arith);
    after = λ j m n. let a = times 0 j m n in omega (arith, ints, a);
  })

  tested : (c : Candidate) (k : ℕ) → agrees_from c zone last k ≡ true → IsAllowed c zone k × AgreesFrom c zone last k
  tested (Fixed total) zero h =
      let parts = and_parts (int_eq total zone.first) (gives_totals (Fixed total) zone (shift_at zone.shifts 0).0 last) h in (
        tt,
        record {
          alike = λ s b m. by_lt_z {P = total ≡ total_from zone.first zone.shifts s} s (shift_at zone.shifts 0).0
              (λ lt. eq_from_pass total zone.first parts.0 ∙ sym (early s lt))
              (λ le. totals_given (Fixed total) zone last (shift_at zone.shifts 0).0 parts.1 s le m);
        },
      )
  tested (Ruled rule) zero h = cc
  tested (Fixed total) (suc i) h =
      let parts = and_parts (nat_lt i (length zone.shifts) && true) (gives_totals (Fixed total) zone (shift_at zone.shifts i).0 last) h in
      let within = and_parts (nat_lt i (length zone.shifts)) true parts.0 in
      ((grind (arith, nat_tests, within.0), tt), record { alike = totals_given (Fixed total) zone last (shift_at zone.shifts i).0 parts.1 })
  tested (Ruled rule) (suc i) h =
      let parts = and_parts (nat_lt i (length zone.shifts) && reaches (Ruled rule) (shift_at zone.shifts i).0) (gives_totals (Ruled rule) zone (shift_at zone.shifts i).0 last) h in
      let within = and_parts (nat_lt i (length zone.shifts)) (reaches (Ruled rule) (shift_at zone.shifts i).0) parts.0 in
      ((grind (arith, nat_tests, within.0), reaches_to (Ruled rule) (shift_at zone.shifts i).0 within.1), record { alike = totals_given (Ruled rule) zone last (shift_at zone.shifts i).0 parts.1 })

  passes : (c : Candidate) (k : ℕ) → IsAllowed c zone k → AgreesFrom c zone last k → agrees_from c zone last k ≡ true
  passes (Fixed total) zero allowed from =
      let e = before_both (shift_at zone.shifts 0).0 last in
      and_from (int_eq total zone.first) (gives_totals (Fixed total) zone (shift_at zone.shifts 0).0 last)
      (eq_pass total zone.first (from.alike e.0 tt e.2 ∙ early e.0 e.1))
      (given_totals (Fixed total) zone last (shift_at zone.shifts 0).0 (λ s l m. from.alike s tt m))
  passes (Ruled rule) zero allowed from = absurd allowed
  passes (Fixed total) (suc i) allowed from =
      and_from (nat_lt i (length zone.shifts) && true) (gives_totals (Fixed total) zone (shift_at zone.shifts i).0 last)
      (and_from (nat_lt i (length zone.shifts)) true (lt-ltb i (length zone.shifts) allowed.0) refl)
      (given_totals (Fixed total) zone last (shift_at zone.shifts i).0 from.alike)
  passes (Ruled rule) (suc i) allowed from =
      and_from (nat_lt i (length zone.shifts) && reaches (Ruled rule) (shift_at zone.shifts i).0) (gives_totals (Ruled rule) zone (shift_at zone.shifts i).0 last)
      (and_from (nat_lt i (length zone.shifts)) (reaches (Ruled rule) (shift_at zone.shifts i).0) (lt-ltb i (length zone.shifts) allowed.0) (to_reaches (Ruled rule) (shift_at zone.shifts i).0 allowed.1))
      (given_totals (Ruled rule) zone last (shift_at zone.shifts i).0 from.alike)

  -- a test that can't pass fails
  fails : (c : Candidate) (k : ℕ) → (IsAllowed c zone k → Agrees c zone last k → ⊥) → agrees_from c zone last k ≡ false
  fails c k never = by_test (agrees_from c zone last k) refl
    where
      by_test : (b : Bool) → agrees_from c zone last k ≡ b → agrees_from c zone last k ≡ false
      by_test true h = let both = tested c k h in absurd (never both.0 (by_instants c zone last k both.1))
      by_test false h = h

-- ---- the choice

module _ (set : FixedTimespanSet) (accepted : IsAccepted (schedule_of set)) (i k : ℕ)
    (choice : IsChoice (candidates set) (schedule_of set) (end_of_last_year set) i k) where
  abbrev zone : Schedule
  zone = schedule_of set

  abbrev last : ℤ
  last = end_of_last_year set

  abbrev tries : ℕ → ℕ → Bool
  tries m j = agrees_from (candidate_at (candidates set) j) zone last m

  index_is : index_from set k ≡ i
  index_is = first_with-is (tries k) 0 (length (candidates set)) i (omega arith) (omega (arith, choice.within))
      (λ l. passes zone accepted.times last (candidate_at (candidates set) i) k choice.allowed (by_seconds (candidate_at (candidates set) i) zone last k choice.agrees))
      (λ j l m. fails zone accepted.times last (candidate_at (candidates set) j) k (choice.first j m))

  none_before : (m : ℕ) → m < k → index_from set m ≡ length (candidates set)
  none_before m l = first_with-is (tries m) 0 (length (candidates set)) (length (candidates set)) (omega arith) (omega arith)
      (λ n. absurd (omega arith))
      (λ j n o. fails zone accepted.times last (candidate_at (candidates set) j) m (choice.none_earlier j m o l))

  span_within : k ≤ length (shifts_of set)
  span_within = within k choice.allowed
    where
      within : (k : ℕ) → IsAllowed (candidate_at (candidates set) i) zone k → k ≤ length (shifts_of set)
      within zero h = omega arith
      within (suc n) h = omega (arith, h.0)

  pub span_is : found_span set ≡ k
  unfolding found_span
  span_is = first_with-is (λ m. nat_lt (index_from set m) (length (candidates set))) 0 (length (shifts_of set) + 1) k (omega arith) (omega (arith, span_within))
      (λ l. rw index_is (lt-ltb i (length (candidates set)) choice.within))
      (λ m l n. rw (none_before m n) (not_below (length (candidates set))))
    where
      not_below : (n : ℕ) → nat_lt n n ≡ false
      not_below n = grind (arith, nat_tests)

-- what is answered is what is found
pub found : (set : FixedTimespanSet) (from : Option ℤ) (text : List ℕ) → IsAccepted (schedule_of set) → IsTail set from text
    → (from ≡ found_from set) × (text ≡ found_text set)
unfolding found_from found_text
found set from text accepted tail =
    let span = span_is set accepted tail.index tail.span tail.choice in
    let index = ap (index_from set) span ∙ index_is set accepted tail.index tail.span tail.choice in (
      tail.begins ∙ ap (beginning (shifts_of set)) (sym span),
      tail.written ∙ ap (λ n. text_of (names_of (form set)).0 (names_of (form set)).1 (candidate_at (candidates set) n)) (sym index),
    )
