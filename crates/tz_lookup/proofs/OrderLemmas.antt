-- The order of spans about a local second, and what the span that is found says of its instants.
use Rattle.std.proofs.{Common.{◌≡◌, ℕ, zero, suc, ◌+◌, ◌<◌, ◌≤◌, Bool, true, false, cond, [], ◌∷◌, length, ℤ, ◌<ℤ◌, refl, sym, ap, ◌∙◌, subst, ⊎_elim, arith}, lemmas.Bool.{cases_lt}, lemmas.Int.{ints}}
use Rattle.std.specs.declared.cmp.Ordering.{Ordering, TheVariants.{Less, Equal, Greater}}
use Rattle.basics.specs.ComparisonLaws.{le_le, lt_le}
use Rattle.civil_base.specs.{Instants.{seconds_of}, RangeLaws.{offset_greatest, offset_least}, Ranges.{IsOffset}}
use Rattle.zone_spans.specs.Schedules.{Schedule, total_at}
use Rattle.tz_lookup.{specs.{InForce.{totals_at}, Spans.{local_start, local_end, IsIn, IsOrderly}, Search.{GoesUp}, Sets.{IsAccepted, IsNear, has_ended, is_ahead, order_of, schedule_of, shifts_of, total_of_span}, declared.set.FixedTimespanSet.{FixedTimespanSet}}, proofs.{ChoiceLemmas.{AreApart, choose_first, choose_second, choose_third, chosen_first, chosen_second, chosen_third}, PlaceLemmas.{ended_false, ended_true, not_ended, is_ended, ahead_false, ahead_true, not_ahead, is_before}, SetLemmas.{count_same, span_offset}, AnswerLemmas.{Holds, total, none_holds, before_holds, alone_holds}}}

apart : AreApart Less Greater Equal
apart = (λ e. cc, λ e. cc, λ e. cc)

-- a span lies at a local second exactly where it contains it
pub in_order : (zone : Schedule) (i : ℕ) (x : ℤ) → i ≤ length zone.shifts → order_of zone i x ≡ Equal → IsIn zone.first zone.shifts i x
in_order zone i x l e =
    let both = chosen_third apart (has_ended zone i x) (is_ahead zone i x) e in
    record {
      within = l;
      begun = ahead_false i (local_start zone.shifts i) x both.1;
      lasts = ended_false i (length zone.shifts) (local_end zone.first zone.shifts i) x both.0;
    }

pub order_in : (zone : Schedule) (i : ℕ) (x : ℤ) → IsIn zone.first zone.shifts i x → order_of zone i x ≡ Equal
order_in zone i x h =
    choose_third Less Greater Equal (has_ended zone i x) (is_ahead zone i x) (not_ended i (length zone.shifts) (local_end zone.first zone.shifts i) x h.lasts)
    (not_ahead i (local_start zone.shifts i) x h.begun)

-- the spans of an orderly zone go from before a local second over it to after it
pub goes_up : (zone : Schedule) (x : ℤ) (n : ℕ) → n ≡ length zone.shifts + 1 → IsOrderly zone.first zone.shifts
    → GoesUp (λ k. order_of zone k x) 0 n
goes_up zone x n size orderly = record {
  before = λ i j _ l m e.
      let gone =
      ended_true j (length zone.shifts) (local_end zone.first zone.shifts j) x
      (chosen_first apart (has_ended zone j x) (is_ahead zone j x) e) in
      choose_first Less Greater Equal (has_ended zone i x) (is_ahead zone i x)
      (is_ended i (length zone.shifts) (local_end zone.first zone.shifts i) x (omega (arith, gone.0))
      (le_le _ _ _ (orderly.ends i j l gone.0) gone.1));
  after = λ i j _ l m e.
      let both = chosen_second apart (has_ended zone i x) (is_ahead zone i x) e in
      let ahead = ahead_true i (local_start zone.shifts i) x both.1 in
      let not_gone : j < length zone.shifts → x <ℤ local_end zone.first zone.shifts j =
      λ k. lt_le _ _ _ (ended_false i (length zone.shifts) (local_end zone.first zone.shifts i) x both.0 (omega arith))
      (orderly.ends i j l k) in
      choose_second Less Greater Equal (has_ended zone j x) (is_ahead zone j x)
      (not_ended j (length zone.shifts) (local_end zone.first zone.shifts j) x not_gone)
      (is_before j (local_start zone.shifts j) x (omega (arith, ahead.0))
      (lt_le _ _ _ ahead.1 (orderly.starts i j ahead.0 l (omega (arith, m, size)))));
}

module _ (zone : Schedule) (x s : ℤ) (at : seconds_of x ≡ s) (accepted : IsAccepted zone) where
  holds : (k : ℕ) → k ≤ length zone.shifts → order_of zone k s ≡ Equal → Holds zone k x
  holds k l e = subst (λ y. IsIn zone.first zone.shifts k y) (sym at) (in_order zone k s l e)

  lies : (k : ℕ) → Holds zone k x → order_of zone k s ≡ Equal
  lies k h = order_in zone k s (subst (λ y. IsIn zone.first zone.shifts k y) at h)

  -- no span lies at the local second
  pub none_lies : ((k : ℕ) → k ≤ length zone.shifts → order_of zone k s ≡ Equal → ⊥) → [] ≡ totals_at (total_at zone) x
  none_lies none = sym (none_holds zone x accepted.times accepted.range (λ k h. none k h.within (lies k h)))

  -- two spans lie there
  pub two_lie : IsOrderly zone.first zone.shifts → (k : ℕ) → suc k ≤ length zone.shifts → order_of zone k s ≡ Equal
      → order_of zone (suc k) s ≡ Equal → total zone k ∷ total zone (suc k) ∷ [] ≡ totals_at (total_at zone) x
  two_lie orderly k l e f =
      sym (before_holds zone x k accepted.times accepted.range orderly (holds k (omega arith) e) (holds (suc k) l f))

  -- one span lies there, and neither the one before nor the one after
  pub one_lies : IsOrderly zone.first zone.shifts → (k : ℕ) → k ≤ length zone.shifts → order_of zone k s ≡ Equal
      → ((j : ℕ) → suc j ≡ k → order_of zone j s ≡ Equal → ⊥) → (k < length zone.shifts → order_of zone (suc k) s ≡ Equal → ⊥)
      → total zone k ∷ [] ≡ totals_at (total_at zone) x
  one_lies orderly k l e no_before no_after =
      sym (alone_holds zone x k accepted.times accepted.range orderly (holds k l e) (λ j is h. no_before j is (lies j h))
      (λ h. no_after h.within (lies (suc k) h)))

-- all shifts may lie near any second
pub all_near : (set : FixedTimespanSet) (n : ℕ) (s : ℤ) → n ≡ length set.others → IsNear (shifts_of set) 0 n s
all_near set n s is = record {
  order = omega arith;
  within = omega (arith, is, count_same set);
  before = λ j l. absurd (omega arith);
  after = λ j l m. absurd (omega (arith, l, m, is, count_same set));
}

-- the spans of shifts that lie far before a local second have ended, and those of shifts far after it are ahead
module _ (set : FixedTimespanSet) (accepted : IsAccepted (schedule_of set)) (low high : ℕ) (s : ℤ) (near : IsNear (shifts_of set) low high s) where
  abbrev pub zone : Schedule
  zone = schedule_of set

  offset : (i : ℕ) → i ≤ length zone.shifts → IsOffset (total_of_span set i)
  offset i l = span_offset set i accepted (omega (arith, l, count_same set))

  gone : (k : ℕ) → k < low → order_of zone k s ≡ Less
  gone k l =
      let inside : k < length zone.shifts = omega (arith, l, near.order, near.within) in
      choose_first Less Greater Equal (has_ended zone k s) (is_ahead zone k s)
      (is_ended k (length zone.shifts) (local_end zone.first zone.shifts k) s inside
      (omega (arith, ints, near.before k l, offset_greatest (total_of_span set k) (offset k (omega (arith, inside))))))

  to_come : (k : ℕ) → high < k → k ≤ length zone.shifts → order_of zone k s ≡ Greater
  to_come zero l m = absurd (omega (arith, l))
  to_come (suc k) l m =
      let late = near.after k (omega (arith, l)) (omega (arith, m)) in
      let small = offset_least (total_of_span set (suc k)) (offset (suc k) m) in
      choose_second Less Greater Equal (has_ended zone (suc k) s) (is_ahead zone (suc k) s)
      (not_ended (suc k) (length zone.shifts) (local_end zone.first zone.shifts (suc k)) s
      (λ n. omega (arith, ints, late, small, accepted.times k (suc k) (omega arith) n)))
      (is_before (suc k) (local_start zone.shifts (suc k)) s (omega arith) (omega (arith, ints, late, small)))

  -- where none of the others lies at it none does
  pub none_near : ((k : ℕ) → low ≤ k → k < high + 1 → order_of zone k s ≡ Equal → ⊥) → (k : ℕ) → k ≤ length zone.shifts
      → order_of zone k s ≡ Equal → ⊥
  none_near none k l e =
      ⊎_elim {C = ⊥}
      (λ less. let f = gone k less in cc)
      (λ from. ⊎_elim {C = ⊥}
      (λ past. let f = to_come k past l in cc)
      (λ within. none k from (omega (arith, within)) e)
      (cases_lt high k))
      (cases_lt k low)

-- a test that answered no
pub if_false : {P : Type 0} (b : Bool) → (P → b ≡ true) → b ≡ false → P → ⊥
if_false b says e p = let f = says p in cc
