-- A walk from change to change makes a list that tells what is in force.
use Rattle.std.{proofs.Common.{◌≡◌, ℕ, zero, suc, ◌<◌, ◌≤◌, ◌⊎◌, Bool, true, false, ◌&&◌, cond, List, [], ◌∷◌, ◌++◌, length, map, All, ℤ, pos, negsuc, neg_ℤ, ◌*ℤ◌, ◌+ℤ◌, ◌-ℤ◌, ◌≤ℤ◌, ◌<ℤ◌, int_le, inl, inr, refl, sym, ap, ◌∙◌, subst, arith}, proofs.Math.ListN.{get_or-append}, proofs.Math.Seq.{get_or-append_seam}, proofs.lemmas.Bool.{cases_lt}, proofs.lemmas.Int.{ints}, specs.List.{list_all}}
use Rattle.std.proofs.lemmas.{Int.{by_lt_z}, List.{length-append, length-map, map-append}, List.Elements.{All-append}, List.Folds.{list_all-append}}
use borrow.Author.Differences.{up}
use Rattle.basics.specs.{ComparisonLaws.{le_fail, le_itself, le_le, le_pass}, SignedLaws.{signed}}
use Rattle.civil_base.specs.{Instants.{seconds_of}, RangeLaws.{offset_greatest, offset_least}, Ranges.{IsOffset, is_offset}}
use Rattle.zone_spans.specs.{Entries.{Entry, total}, declared.span.FixedTimespan.{FixedTimespan}}
use Rattle.tz_lookup.specs.{SecondLaws.{same_test}, Sets.{AreSpanTimes, IsAccepted, IsSpanTime, schedule_of, shift_of}, Spans.{Shift, TimesDontFall, shift_at}, declared.set.FixedTimespanSet.{FixedTimespanSet}}
use Rattle.tz_ever.specs.InForce.{has_come, span_by}
use Rattle.tz_tzif.specs.{Opened.{saving_of, span_of}, Walks.{AreBefore, AreShifts, Tells}}
use Rattle.zone_tzif_core.specs.Zones.{KindValue}

-- ---- what is told with one entry more
last_come : (first : FixedTimespan) (es : List Entry) (e : Entry) (t : ℤ) → span_by first (es ++ e ∷ []) t ≡ cond (has_come t e) e.1 (span_by first es t)
unfolding span_by
last_come first [] e t = refl
last_come first (x ∷ xs) e t = last_come (cond (has_come t x) x.1 first) xs e t

no_entry : (first : FixedTimespan) (t : ℤ) → span_by first [] t ≡ first
unfolding span_by
no_entry first t = refl

module _ (kind : ℤ → KindValue) (from : ℤ) where
  pub told_first : (next : ℤ) → ((s : ℤ) → from ≤ℤ s → s <ℤ next → kind s ≡ kind from) → Tells kind from next (span_of (kind from)) []
  told_first next same t begun over = no_entry (span_of (kind from)) t ∙ ap span_of (sym (same (seconds_of t) begun over))

  pub told_more : (here next : ℤ) (es : List Entry) (span : FixedTimespan) → Tells kind from here (span_of (kind from)) es
      → span ≡ span_of (kind here) → ((s : ℤ) → here ≤ℤ s → s <ℤ next → kind s ≡ kind here)
      → Tells kind from next (span_of (kind from)) (es ++ (here, span) ∷ [])
  told_more here next es span tells is same t begun over =
      let first = span_of (kind from) in
      last_come first es (here, span) t
      ∙ ap (λ b. cond b span (span_by first es t)) (same_test here t)
      ∙ by_lt_z (seconds_of t) here
      (λ before. ap (λ b. cond b span (span_by first es t)) (le_fail here (seconds_of t) before) ∙ tells t begun before)
      (λ after. ap (λ b. cond b span (span_by first es t)) (le_pass here (seconds_of t) after) ∙ is ∙ ap span_of (sym (same (seconds_of t) after over)))

-- ---- shifts with one more
old_shift : (ss : List Shift) (s : Shift) (i : ℕ) → i < length ss → shift_at (ss ++ s ∷ []) i ≡ shift_at ss i
old_shift ss s i h = get_or-append ss (s ∷ []) (pos 0, pos 0) i h

new_shift : (ss : List Shift) (s : Shift) → shift_at (ss ++ s ∷ []) (length ss) ≡ s
new_shift ss s = get_or-append_seam ss s [] (pos 0, pos 0)

module _ (ss : List Shift) (s : Shift) (earlier : AreBefore ss s.0) where
  pub before_more : (end : ℤ) → s.0 <ℤ end → AreBefore (ss ++ s ∷ []) end
  before_more end h i within = elim (cases_lt i (length ss)) [
    | inl old ↦
        let is = ap (λ (x : Shift). x.0) (old_shift ss s i old) in
        omega (arith, ints, is, earlier i old, h)
    | inr new ↦
        let last : i ≡ length ss = omega (arith, within, length-append ss (s ∷ []), new) in
        let is = ap (λ k. (shift_at (ss ++ s ∷ []) k).0) last ∙ ap (λ (x : Shift). x.0) (new_shift ss s) in
        omega (arith, ints, is, h)
  ]

  falls_more : TimesDontFall ss → TimesDontFall (ss ++ s ∷ [])
  falls_more falls i j order within = elim (cases_lt j (length ss)) [
    | inl old ↦
        let at_i = ap (λ (x : Shift). x.0) (old_shift ss s i (omega (arith, order, old))) in
        let at_j = ap (λ (x : Shift). x.0) (old_shift ss s j old) in
        omega (arith, ints, at_i, at_j, falls i j order old)
    | inr new ↦
        let last : j ≡ length ss = omega (arith, within, length-append ss (s ∷ []), new) in
        let at_j = ap (λ k. (shift_at (ss ++ s ∷ []) k).0) last ∙ ap (λ (x : Shift). x.0) (new_shift ss s) in
        elim (cases_lt i (length ss)) [
          | inl old ↦
              let at_i = ap (λ (x : Shift). x.0) (old_shift ss s i old) in
              omega (arith, ints, at_i, at_j, earlier i old)
          | inr both ↦
              let same : i ≡ j = omega (arith, order, last, both) in
              subst (λ k. (shift_at (ss ++ s ∷ []) i).0 ≤ℤ (shift_at (ss ++ s ∷ []) k).0) same (le_itself _)
        ]
  ]

  bound_one : IsSpanTime s.0 → AreSpanTimes (s ∷ [])
  bound_one h zero d l = h
  bound_one h (suc k) d l = absurd (omega (arith, l))

  pub shifts_more : AreShifts ss → IsSpanTime s.0 → IsOffset s.1 → AreShifts (ss ++ s ∷ [])
  shifts_more are time offset = record {
    falls = falls_more are.falls;
    bound = All-append (λ (x : Shift). IsSpanTime x.0) ss (s ∷ []) are.bound (bound_one time);
    range = list_all-append (λ (x : Shift). is_offset x.1) ss (s ∷ []) ∙ (λ i. are.range i && (one_range i));
  }
    where
      one_range : list_all (λ (x : Shift). is_offset x.1) (s ∷ []) ≡ true
      one_range = search offset

pub no_shifts : AreShifts []
no_shifts = record {
  falls = λ i j order within. absurd (omega (arith, within));
  bound = λ k d within. absurd (omega (arith, within));
  range = refl;
}

pub shifts_of_more : (es : List Entry) (e : Entry) → map shift_of (es ++ e ∷ []) ≡ map shift_of es ++ shift_of e ∷ []
shifts_of_more es e = map-append shift_of es (e ∷ [])

-- ---- the total of a span
pub total_of_span : (kind : KindValue) → total (span_of kind) ≡ kind.utoff
unfolding span_of
total_of_span kind = omega (arith, ints)

-- ---- what is left of a walk
up_is : (z : ℤ) → pos 0 ≤ℤ z → pos (up z) ≡ z
up_is (pos n) h = refl
up_is (negsuc n) h = absurd (omega (arith, ints, h))

up_none : (z : ℤ) → z <ℤ pos 0 → up z ≡ 0
up_none (pos n) h = absurd (omega (arith, ints, h))
up_none (negsuc n) h = refl

pub nearer : (end here next : ℤ) → here <ℤ end → here <ℤ next → up (end -ℤ next) < up (end -ℤ here)
nearer end here next first later =
    let from_here = up_is (end -ℤ here) (omega (arith, ints, first)) in
    by_lt_z end next
    (λ past. let none = up_none (end -ℤ next) (omega (arith, ints, past)) in omega (arith, ints, from_here, first, none))
    (λ early. let from_next = up_is (end -ℤ next) (omega (arith, ints, early)) in omega (arith, ints, from_here, from_next, later))
