-- The spans that lie at a local second are in force where they read it.
use Rattle.std.{proofs.Common.{◌≡◌, ℕ, ◌≤◌, length, ℤ, sym, subst, arith}, specs.declared.cmp.Ordering.TheVariants.{Equal}}
use Rattle.civil_base.specs.Instants.{instant_at, seconds_of}
use Rattle.tz_lookup.{specs.{Answers.{EachOf, IsUpTo}, InForce.{IsInForce, AreRead}, Sets.{schedule_of, shifts_of, IsAccepted, order_of, total_of_span}, Spans.{IsCut}, declared.time_zone.OffsetResult.{OffsetResult}, declared.time_zone.OffsetResult.TheVariants.{Some, Ambiguous, None}, declared.set.FixedTimespanSet.{FixedTimespanSet}, SecondLaws.{seconds_of-instant_at}}, proofs.{OrderLemmas.{in_order}, SetLemmas.{count_same}, SpanLemmas.{cut_in}}}

in_force_there : (set : FixedTimespanSet) (k : ℕ) (x s : ℤ) → IsAccepted (schedule_of set) → s ≡ seconds_of x → k ≤ length set.others
    → order_of (schedule_of set) k s ≡ Equal → IsInForce set k (instant_at x (total_of_span set k))
in_force_there set k x s accepted at within lies =
    let zone = schedule_of set in
    let there = subst (λ y. order_of zone k y ≡ Equal) at lies in
    let inside = in_order zone k (seconds_of x) (omega (arith, within, count_same set)) there in
    subst (IsCut (shifts_of set) k) (sym (seconds_of-instant_at x (total_of_span set k)))
    (cut_in zone.first zone.shifts k (seconds_of x) accepted.times inside)

pub each_read : (set : FixedTimespanSet) (x s : ℤ) → IsAccepted (schedule_of set) → s ≡ seconds_of x → (spans : OffsetResult ℕ)
    → IsUpTo (length set.others) spans → EachOf (λ k. order_of (schedule_of set) k s ≡ Equal) spans → AreRead set x spans
each_read set x s accepted at (Some k) within lies = in_force_there set k x s accepted at within lies
each_read set x s accepted at (Ambiguous k l) within lies =
    (in_force_there set k x s accepted at within.0 lies.0, in_force_there set l x s accepted at within.1 lies.1)
each_read set x s accepted at None within lies = tt

-- the spans lie at a second that is named in another way
pub each_at : (set : FixedTimespanSet) {s t : ℤ} → s ≡ t → (spans : OffsetResult ℕ)
    → EachOf (λ k. order_of (schedule_of set) k s ≡ Equal) spans → EachOf (λ k. order_of (schedule_of set) k t ≡ Equal) spans
each_at set e spans = subst (λ u. EachOf (λ k. order_of (schedule_of set) k u ≡ Equal) spans) e
