use Rattle.std.proofs.{Common.{arith, ◌+◌, length, get_or, pos, ◌-ℤ◌, sym, ap, ◌∙◌, subst}, lemmas.List.{length_push, length-map}}
use Rattle.tz_lookup.{specs.{Sets.{shift_of, shifts_of}, Spans.{IsCut}, Years.{year_second}}, proofs.YearCountLemmas.{counts_more, before_next}}
use Rattle.tz_lookup.proofs.compact_set.year_counts.Goals as goal

pub loop-place-preserved : goal.loop-place-preserved
loop-place-preserved c =
    let shifts = shifts_of c.args.set.now in
    let inv = c.loop-place.invariant in
    let more = c.in_ok-push.ensures in
    let counts = c.loop-place.counts in
    record {
      within = omega (arith, c.entries_before-before.ensures.within, length-map c.args.set.now.others shift_of);
      before = λ j l m. before_next shifts c.entries_before-before.result c.loop-place.place c.entries_before-before.ensures j l;
      size = ap length more ∙ length_push counts c.entries_before-before.result ∙ ap (λ n. n + 1) inv.size;
      each = λ i l. subst (λ k. IsCut shifts (get_or k i 0) (year_second i -ℤ pos 1)) (sym more)
          (counts_more shifts counts c.entries_before-before.result c.loop-place.place inv.size inv.each c.entries_before-before.ensures i l);
    }

pub returns : goal.returns
returns c =
    let inv = c.loop-place.invariant in
    record {
      few = omega (arith, inv.size, c.years_reached-years.ensures.within, c.loop-place-test.false);
      each = λ i l. inv.each i (omega (arith, l, inv.size));
      later = λ i l m. c.years_reached-years.ensures.later i (omega (arith, l, inv.size, c.loop-place-test.false)) m;
    }
