-- What an entry of the list puts in force from its second on.
use Rattle.std.proofs.{Common.{◌≡◌, ℕ, suc, ◌<◌, ℤ, pos, ◌≤ℤ◌, ◌<ℤ◌, length, sym, ap, ◌∙◌, subst, arith}, lemmas.List.{length-map}}
use Rattle.basics.specs.{ComparisonLaws.{lt_le}, SignedLaws.{signed}}
use Rattle.civil_base.specs.Instants.{nanos_of, seconds_of}
use Rattle.zone_spans.specs.Entries.{Entry}
use Rattle.tz_lookup.specs.{Compiles.{spans_of}, SecondLaws.{one_second, second_is}, Sets.{IsAccepted, schedule_of, shift_of, shifts_of}, Spans.{Shift, TimesDontFall, shift_at}, declared.set.FixedTimespanSet.{FixedTimespanSet}}
use Rattle.tz_ever.{specs.InForce.{span_at}, specs.Unrolled.{IsLastThere, unrolled, unrolled_end}, proofs.CutLemmas.{in_force-is}, proofs.TableLemmas.{shift_read}, proofs.UnrolledShows.{climb_at, set_climbs, unrolled_climbs}}

begins_at : (s : ℤ) → seconds_of (nanos_of s) ≡ s
begins_at s = one_second (nanos_of s) _ s (second_is (nanos_of s)) (record { low = omega (arith, signed); high = omega (arith, signed) })

module _ (set : FixedTimespanSet) (place : ℕ) (entry : Entry) where
  abbrev list : FixedTimespanSet
  list = unrolled set

  time_is : IsLastThere list.others place entry → (shift_at (shifts_of list) place).0 ≡ entry.0
  time_is there = ap (λ (s : Shift). s.0) (shift_read list.others place entry there.within) ∙ ap (λ (e : Entry). e.0) (there.is entry)

  pub is_put : TimesDontFall (shifts_of list) → IsLastThere list.others place entry
      → span_at (spans_of list) (nanos_of entry.0) ≡ entry.1
  is_put times there =
      let size = length-map list.others shift_of in
      in_force-is list (suc place) (nanos_of entry.0) (record {
        within = omega (arith, there.within, size);
        before = λ j l. subst (λ s. (shift_at (shifts_of list) j).0 ≤ℤ s) (time_is there ∙ sym (begins_at entry.0))
            (times j place (omega arith) (omega (arith, there.within, size)));
        after = λ j l m.
            let more : suc place < length list.others = omega (arith, l, m, size) in
            let next = ap (λ (s : Shift). s.0) (shift_read list.others (suc place) entry more) in
            subst (λ s. s <ℤ (shift_at (shifts_of list) j).0) (sym (begins_at entry.0))
            (lt_le _ _ _ (subst (λ s. entry.0 <ℤ s) (sym next) (there.last entry more)) (times (suc place) j l m));
      }) ∙ ap (λ (e : Entry). e.1) (there.is (pos 0, set.first))

  pub comes_early : IsAccepted (schedule_of set) → IsLastThere list.others place entry → nanos_of entry.0 <ℤ unrolled_end
  comes_early ok there =
      let climbs = unrolled_climbs set.others (set_climbs set ok) in
      let early = (climb_at _ list.others _ place climbs (omega (arith, there.within, length-map list.others shift_of))).1 in
      omega (arith, signed, early, time_is there)
