-- The total of a zone throughout seconds of one cycle, and where they begin and end.
use Rattle.std.proofs.Common.{◌≡◌, ℕ, zero, suc, ◌<◌, ◌*◌, ℤ, pos, ◌+ℤ◌, ◌-ℤ◌, ◌≤ℤ◌, ◌<ℤ◌, sym, ap, ◌∙◌, arith}
use Rattle.std.specs.Int.{int_max, int_min}
use Rattle.basics.specs.{ComparisonLaws.{lt_pass}, SignedLaws.{signed}}
use Rattle.civil_base.specs.Instants.{nanos_of}
use Rattle.zone_spans.specs.Schedules.{total_at}
use Rattle.tz_lookup.specs.{Sets.{schedule_of}, declared.set.FixedTimespanSet.{FixedTimespanSet}, Stretches.{IsStretch, stretch_begin, stretch_end}, declared.stretch.Stretch.{Stretch}}
use Rattle.tz_ever.specs.{Ever.{ever_total}, Recurrences.{zone_total}, Seam.{brought_back, cycles_past, next_seam}, SeamLaws.{back_by, back_is, one_number}, Stretches.{begin_past, cycle_begin, end_past, ever_begin, ever_end}, Unrolled.{next_seam_second, seam_second}}
use Rattle.tz_ever.{specs.declared.recurrence.Recurrence.TheVariants.{Always}, proofs.TurnLemmas.{always_is}}

pub before_seam : (set : FixedTimespanSet) (u : ℤ) → u <ℤ next_seam_second → ever_total set (nanos_of u) ≡ total_at (schedule_of set) (nanos_of u)
unfolding ever_total
before_seam set u l = ap (total_at (schedule_of set)) (back_is (nanos_of u) (lt_pass (nanos_of u) next_seam (omega (arith, signed, l))))

pub after_seam : (set : FixedTimespanSet) (u v : ℤ) (k : ℕ) → u ≡ v +ℤ pos (k * 12622780800) → seam_second ≤ℤ v → v <ℤ next_seam_second
    → ever_total set (nanos_of u) ≡ total_at (schedule_of set) (nanos_of v)
unfolding ever_total
after_seam set u v k is low high =
    ap (total_at (schedule_of set)) (back_by (nanos_of u) k (record {
      begun = λ _. omega (arith, signed, is, low);
      not_over = omega (arith, signed, is, high);
    }) ∙ omega (arith, signed, is))

-- a stretch of the set is one of the zone as far as the next seam
pub first_is : (set : FixedTimespanSet) (second until : ℤ) (found result : Stretch) → second <ℤ next_seam_second
    → IsStretch (total_at (schedule_of set)) second found → until ≤ℤ next_seam_second → until ≤ℤ found.until
    → result.from ≡ found.from → result.until ≡ until → result.offset ≡ found.offset → IsStretch (ever_total set) second result
first_is set second until found result early is seam end from_is until_is offset_is = record {
  begun = omega (arith, signed, is.begun, from_is);
  here = before_seam set second early ∙ is.here ∙ sym offset_is;
  throughout = λ u low high.
      before_seam set u (omega (arith, signed, high, until_is, seam))
      ∙ is.throughout u (omega (arith, signed, low, from_is)) (omega (arith, signed, high, until_is, end)) ∙ sym offset_is;
}

-- and within a cycle so many cycles later
pub later_is : (set : FixedTimespanSet) (second v from until : ℤ) (k : ℕ) (found result : Stretch) → second ≡ v +ℤ pos (k * 12622780800)
    → seam_second ≤ℤ v → v <ℤ next_seam_second → IsStretch (total_at (schedule_of set)) v found → seam_second ≤ℤ from → found.from ≤ℤ from
    → from ≤ℤ v → until ≤ℤ next_seam_second → until ≤ℤ found.until → result.from ≡ from +ℤ pos (k * 12622780800)
    → result.until ≡ until +ℤ pos (k * 12622780800) → result.offset ≡ found.offset → IsStretch (ever_total set) second result
later_is set second v from until k found result v_is low high is seam start least next end from_is until_is offset_is = record {
  begun = omega (arith, signed, v_is, from_is, least);
  here = after_seam set second v k v_is low high ∙ is.here ∙ sym offset_is;
  throughout = λ u after before.
      let w = u -ℤ pos (k * 12622780800) in
      after_seam set u w k (omega (arith, signed)) (omega (arith, signed, after, from_is, seam)) (omega (arith, signed, before, until_is, next))
      ∙ is.throughout w (omega (arith, signed, after, from_is, start)) (omega (arith, signed, before, until_is, end)) ∙ sym offset_is;
}

-- the cycles past the seam, by their bounds in seconds
none_past : (second : ℤ) → second <ℤ next_seam_second → cycles_past (nanos_of second) ≡ 0
none_past second early = one_number (nanos_of second) 0 (record {
  begun = λ p. absurd (omega arith);
  not_over = omega (arith, signed, early);
})

some_past : (second v : ℤ) (k : ℕ) → second ≡ v +ℤ pos (k * 12622780800) → seam_second ≤ℤ v → v <ℤ next_seam_second → cycles_past (nanos_of second) ≡ k
some_past second v k is low high = one_number (nanos_of second) k (record {
  begun = λ _. omega (arith, signed, is, low);
  not_over = omega (arith, signed, is, high);
})

at_none : (x : ℤ) → x -ℤ pos (0 * 12622780800) ≡ x
at_none x = omega (arith, signed)

none_later : (x : ℤ) → x ≡ x +ℤ pos (0 * 12622780800)
none_later x = omega (arith, signed)

pub first_begin : (set : FixedTimespanSet) (second begin : ℤ) → second <ℤ next_seam_second → begin ≡ stretch_begin (schedule_of set) second
    → begin ≡ ever_begin set second
unfolding ever_begin
first_begin set second begin early is =
    let zone = schedule_of set in
    is ∙ ap (stretch_begin zone) (sym (at_none second)) ∙ none_later _ ∙ sym (ap (λ k. begin_past zone k second) (none_past second early))

pub first_end : (set : FixedTimespanSet) (second end : ℤ) → second <ℤ next_seam_second
    → end ≡ int_min (stretch_end (schedule_of set) second) next_seam_second → end ≡ ever_end set second
unfolding ever_end
first_end set second end early is =
    let zone = schedule_of set in
    is ∙ ap (λ s. int_min (stretch_end zone s) next_seam_second) (sym (at_none second)) ∙ none_later _
    ∙ sym (ap (λ k. end_past zone k second) (none_past second early))

pub later_begin : (set : FixedTimespanSet) (second v begin : ℤ) (k : ℕ) → 0 < k → second ≡ v +ℤ pos (k * 12622780800) → seam_second ≤ℤ v
    → v <ℤ next_seam_second → begin ≡ int_max (stretch_begin (schedule_of set) v) seam_second +ℤ pos (k * 12622780800) → begin ≡ ever_begin set second
unfolding ever_begin
later_begin set second v begin zero some is low high begins = absurd (omega (arith, some))
later_begin set second v begin (suc k) some is low high begins =
    let zone = schedule_of set in
    let back : v ≡ second -ℤ pos (suc k * 12622780800) = omega (arith, signed, is) in
    begins ∙ ap (λ s. int_max (stretch_begin zone s) seam_second +ℤ pos (suc k * 12622780800)) back
    ∙ sym (ap (λ k. begin_past zone k second) (some_past second v (suc k) is low high))

pub later_end : (set : FixedTimespanSet) (second v end : ℤ) (k : ℕ) → second ≡ v +ℤ pos (k * 12622780800) → seam_second ≤ℤ v → v <ℤ next_seam_second
    → end ≡ int_min (stretch_end (schedule_of set) v) next_seam_second +ℤ pos (k * 12622780800) → end ≡ ever_end set second
unfolding ever_end
later_end set second v end k is low high ends =
    let zone = schedule_of set in
    let back : v ≡ second -ℤ pos (k * 12622780800) = omega (arith, signed, is) in
    ends ∙ ap (λ s. int_min (stretch_end zone s) next_seam_second +ℤ pos (k * 12622780800)) back
    ∙ sym (ap (λ k. end_past zone k second) (some_past second v k is low high))

pub cycle_begins : (set : FixedTimespanSet) (second v begin : ℤ) (k : ℕ) → second ≡ v +ℤ pos (k * 12622780800) → seam_second ≤ℤ v
    → v <ℤ next_seam_second → begin ≡ int_max (stretch_begin (schedule_of set) v) seam_second +ℤ pos (k * 12622780800) → begin ≡ cycle_begin set second
unfolding cycle_begin
cycle_begins set second v begin k is low high begins =
    let zone = schedule_of set in
    let back : v ≡ second -ℤ pos (k * 12622780800) = omega (arith, signed, is) in
    begins ∙ ap (λ s. int_max (stretch_begin zone s) seam_second +ℤ pos (k * 12622780800)) back
    ∙ sym (ap (λ k. int_max (stretch_begin zone (second -ℤ pos (k * 12622780800))) seam_second +ℤ pos (k * 12622780800)) (some_past second v k is low high))

-- ---- where they come again always
nanos_later : (u : ℤ) → nanos_of u +ℤ pos 391306204800000000000 ≡ nanos_of (u +ℤ pos 391306204800)
nanos_later u = omega (arith, signed)

always_total : (set : FixedTimespanSet) (u : ℤ) → zone_total Always set (nanos_of u) ≡ ever_total set (nanos_of (u +ℤ pos 391306204800))
unfolding zone_total ever_total
always_total set u = ap (total_at (schedule_of set)) (always_is (nanos_of u) ∙ ap brought_back (nanos_later u))

-- a stretch of 31 cycles later, moved
pub always_stretch : (set : FixedTimespanSet) (second v : ℤ) (found result : Stretch) → v ≡ second +ℤ pos 391306204800
    → IsStretch (ever_total set) v found → result.from ≡ found.from -ℤ pos 391306204800 → result.until ≡ found.until -ℤ pos 391306204800
    → result.offset ≡ found.offset → IsStretch (zone_total Always set) second result
always_stretch set second v found result v_is is from_is until_is offset_is = record {
  begun = omega (arith, signed, is.begun, v_is, from_is);
  here = always_total set second ∙ ap (λ u. ever_total set (nanos_of u)) (sym v_is) ∙ is.here ∙ sym offset_is;
  throughout = λ u low high.
      always_total set u
      ∙ is.throughout (u +ℤ pos 391306204800) (omega (arith, signed, low, from_is)) (omega (arith, signed, high, until_is)) ∙ sym offset_is;
}
