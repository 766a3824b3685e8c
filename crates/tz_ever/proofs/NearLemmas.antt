-- An instant within 26 hours of a local time shows what it shows within 26 hours of that local time brought back, or turned.
use Rattle.std.proofs.Common.{◌≡◌, ℕ, zero, suc, ◌*◌, ◌≤◌, ◌⊎◌, inl, inr, ℤ, pos, ◌+ℤ◌, ◌-ℤ◌, ◌<ℤ◌, refl, sym, ap, ◌∙◌, subst, arith, Bool, List, int_lt}
use Rattle.basics.specs.SignedLaws.{signed}
use Rattle.civil_base.specs.{Instants.{instant_at}, RangeLaws.{offset_greatest, offset_least}, Ranges.{IsOffset}}
use Rattle.zone_spans.specs.{Entries.{total}, Schedules.{total_at}, declared.span.FixedTimespan.{FixedTimespan}, Cycle.{instant_on}}
use Rattle.tz_ever.{specs.{InForce.{span_at}, InForceLaws.{total_at-is}, Ever.{IsRepeating, ever_span, ever_total}, Recurrences.{RepeatsAs, ZoneGives, turned, zone_span, zone_total}, declared.recurrence.Recurrence.{Recurrence}, declared.recurrence.Recurrence.TheVariants.{Never, Later, Always}, Seam.{IsAtSeam, brought_back, cycles_past}, SeamLaws.{ArePast, back_by, cycles_past-are}}, proofs.CutLemmas.{in_force-is}, proofs.TurnLemmas.{always_is}}
use Rattle.tz_lookup.specs.{CompileLaws.{totals_same}, Compiles.{spans_of}, InForce.{GivesAt}, Sets.{schedule_of}, declared.set.FixedTimespanSet.{FixedTimespanSet}}

-- ---- numbers of cycles a cycle apart at most
abbrev OneApart : ℕ → ℕ → Type 0
OneApart j k = (j ≡ k) ⊎ ((suc j ≡ k) ⊎ (j ≡ suc k))

one_apart : (j k : ℕ) → j ≤ suc k → k ≤ suc j → OneApart j k
one_apart zero zero h g = inl refl
one_apart zero (suc zero) h g = inr (inl refl)
one_apart zero (suc (suc k)) h g = absurd (omega (arith, g))
one_apart (suc zero) zero h g = inr (inr refl)
one_apart (suc (suc j)) zero h g = absurd (omega (arith, h))
one_apart (suc j) (suc k) h g = elim (one_apart j k (omega (arith, h)) (omega (arith, g))) [
  | inl e ↦ inl (ap suc e)
  | inr (inl e) ↦ inr (inl (ap suc e))
  | inr (inr e) ↦ inr (inr (ap suc e))
]

few_more : (x y : ℤ) (j k : ℕ) → ArePast x j → ArePast y k → x <ℤ (y +ℤ pos 93600000000000) → j ≤ suc k
few_more x y zero k h g near = omega arith
few_more x y (suc j) k h g near =
    let begun = h.begun (omega arith) in
    let not_over = g.not_over in
    omega (arith, signed)

-- ---- near instants
pub near_after : (x o : ℤ) → IsOffset o → instant_at x o <ℤ (x +ℤ pos 93600000000000)
near_after x o h = let least = offset_least o h in omega (arith, signed)

near_before : (x o : ℤ) → IsOffset o → x <ℤ (instant_at x o +ℤ pos 93600000000000)
near_before x o h = let greatest = offset_greatest o h in omega (arith, signed)

moved : (x o : ℤ) (k : ℕ) → instant_at (x -ℤ pos (k * 12622780800000000000)) o ≡ instant_at x o -ℤ pos (k * 12622780800000000000)
moved x o k = omega (arith, signed)

one_more : (t : ℤ) (k : ℕ) → instant_on (t -ℤ pos (suc k * 12622780800000000000)) ≡ t -ℤ pos (k * 12622780800000000000)
one_more t k = omega (arith, signed)

at_seam-before : (x t : ℤ) (k : ℕ) → ArePast t k → ArePast x (suc k) → x <ℤ (t +ℤ pos 93600000000000)
    → IsAtSeam (t -ℤ pos (suc k * 12622780800000000000))
at_seam-before x t k h g near =
    let begun = g.begun (omega arith) in
    let not_over = h.not_over in
    record { after = omega (arith, signed); before = omega (arith, signed) }

at_seam-after : (x t : ℤ) (k : ℕ) → ArePast t (suc k) → ArePast x k → t <ℤ (x +ℤ pos 93600000000000)
    → IsAtSeam (t -ℤ pos (suc k * 12622780800000000000))
at_seam-after x t k h g near =
    let begun = h.begun (omega arith) in
    let not_over = g.not_over in
    record { after = omega (arith, signed); before = omega (arith, signed) }

-- by the numbers of cycles of both
near_by : (set : FixedTimespanSet) (x t : ℤ) (j k : ℕ) → IsRepeating set → ArePast t j → ArePast x k
    → t <ℤ (x +ℤ pos 93600000000000) → x <ℤ (t +ℤ pos 93600000000000)
    → span_at (spans_of set) (t -ℤ pos (k * 12622780800000000000)) ≡ span_at (spans_of set) (t -ℤ pos (j * 12622780800000000000))
near_by set x t j k repeats h g after before = elim (one_apart j k (few_more t x j k h g after) (few_more x t k j g h before)) [
  | inl e ↦ ap (λ n. span_at (spans_of set) (t -ℤ pos (n * 12622780800000000000))) (sym e)
  | inr (inl e) ↦
      let past = subst (ArePast x) (sym e) g in
      ap (λ n. span_at (spans_of set) (t -ℤ pos (n * 12622780800000000000))) (sym e)
      ∙ sym (repeats (t -ℤ pos (suc j * 12622780800000000000)) (at_seam-before x t j h past before))
      ∙ ap (span_at (spans_of set)) (one_more t j)
  | inr (inr e) ↦
      let past = subst (ArePast t) e h in
      ap (span_at (spans_of set)) (sym (one_more t k))
      ∙ repeats (t -ℤ pos (suc k * 12622780800000000000)) (at_seam-after x t k past g after)
      ∙ ap (λ n. span_at (spans_of set) (t -ℤ pos (n * 12622780800000000000))) (sym e)
]

pub near_span : (set : FixedTimespanSet) (x o : ℤ) → IsRepeating set → IsOffset o
    → span_at (spans_of set) (instant_at (brought_back x) o) ≡ ever_span set (instant_at x o)
unfolding ever_span
near_span set x o repeats h =
    let t = instant_at x o in
    let k = cycles_past x in
    let j = cycles_past t in
    ap (λ y. span_at (spans_of set) (instant_at y o)) (back_by x k (cycles_past-are x))
    ∙ ap (span_at (spans_of set)) (moved x o k)
    ∙ near_by set x t j k repeats (cycles_past-are t) (cycles_past-are x) (near_after x o h) (near_before x o h)
    ∙ ap (span_at (spans_of set)) (sym (back_by t j (cycles_past-are t)))

-- ---- what is shown
pub total_is : (set : FixedTimespanSet) (t : ℤ) → total_at (schedule_of set) t ≡ total (span_at (spans_of set) t)
total_is set t = ap (λ s. total_at s t) (sym (totals_same set (spans_of set) refl refl)) ∙ total_at-is (spans_of set) t

pub ever_total-is : (set : FixedTimespanSet) (t : ℤ) → ever_total set t ≡ total (ever_span set t)
unfolding ever_total ever_span
ever_total-is set t = total_is set (brought_back t)

-- ---- turned to the years that are kept
moved_on : (x o : ℤ) → instant_at (x +ℤ pos 391306204800000000000) o ≡ instant_at x o +ℤ pos 391306204800000000000
moved_on x o = omega (arith, signed)

pub turned_span : (recurrence : Recurrence) (set : FixedTimespanSet) (x o : ℤ) → RepeatsAs recurrence set → IsOffset o
    → span_at (spans_of set) (instant_at (turned recurrence x) o) ≡ zone_span recurrence set (instant_at x o)
unfolding zone_span turned ever_span
turned_span Never set x o repeats h = refl
turned_span Later set x o repeats h = near_span set x o (repeats refl) h
turned_span Always set x o repeats h =
    ap (λ y. span_at (spans_of set) (instant_at y o)) (always_is x)
    ∙ near_span set (x +ℤ pos 391306204800000000000) o (repeats refl) h
    ∙ ap (λ t. span_at (spans_of set) (brought_back t)) (moved_on x o)
    ∙ ap (span_at (spans_of set)) (sym (always_is (instant_at x o)))

pub zone_total-is : (recurrence : Recurrence) (set : FixedTimespanSet) (t : ℤ) → zone_total recurrence set t ≡ total (zone_span recurrence set t)
unfolding zone_total zone_span
zone_total-is recurrence set t = total_is set (turned recurrence t)

pub turned_total : (recurrence : Recurrence) (set : FixedTimespanSet) (x o : ℤ) → RepeatsAs recurrence set → IsOffset o
    → total_at (schedule_of set) (instant_at (turned recurrence x) o) ≡ zone_total recurrence set (instant_at x o)
turned_total recurrence set x o repeats h =
    total_is set (instant_at (turned recurrence x) o) ∙ ap total (turned_span recurrence set x o repeats h)
    ∙ sym (zone_total-is recurrence set (instant_at x o))

pub turned_gives : (recurrence : Recurrence) (set : FixedTimespanSet) (x o : ℤ) (name : List ℕ) (saving : Bool) → RepeatsAs recurrence set
    → IsOffset o → GivesAt set (instant_at (turned recurrence x) o) name saving → ZoneGives recurrence set (instant_at x o) name saving
turned_gives recurrence set x o name saving repeats h gives =
    let is = sym (in_force-is set gives.span (instant_at (turned recurrence x) o) gives.in_force) ∙ turned_span recurrence set x o repeats h in
    record {
      named = gives.named ∙ ap (λ (s : FixedTimespan). s.name) is;
      saves = gives.saves ∙ ap (λ (s : FixedTimespan). int_lt (pos 0) s.dst_offset) is;
    }
