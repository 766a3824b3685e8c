use Rattle.std.proofs.{Common.{◌≡◌, ◌-ℤ◌, ◌≤ℤ◌, ◌<ℤ◌, w64, to_z, of_z, to_z-of_z, FitsSigned, rules, ⊎_elim, subst, ◌∙◌, arith}, lemmas.Int.{by_lt_z}, lemmas.Bool.{cases_lt}}
use Rattle.basics.specs.ComparisonLaws.{le_le}
use Rattle.tz_lookup.specs.{Sets.{shifts_of}, Spans.{shift_at}}
use Rattle.zone_tail.proofs.SpanLemmas.{length-shifts}
use Rattle.zone_tail.proofs.last_year.entries_before.Goals as goal

pub returns-then-not-is_before : goal.returns-then-not-is_before
returns-then-not-is_before g c =
    let fits : FitsSigned w64 c.time.result = search rules in
    let shifts = shifts_of (g.S.SpanTable.seen c.args.set.now) in
    let bound = c.args.local -ℤ c.args.offset in
    let says = rw (to_z-of_z fits ∙ c.time.ensures, to_z-of_z c.ranges.local, to_z-of_z c.ranges.offset) at c.is_before.ensures in
    let from : bound ≤ℤ (shift_at shifts c.loop-i.i).0 = by_lt_z {P = bound ≤ℤ (shift_at shifts c.loop-i.i).0} (shift_at shifts c.loop-i.i).0 bound
    (λ lt. let yes = says.1 lt in let no = c.if-not-is_before.true in cc)
    (λ le. le) in
    record {
      within = omega (arith, length-shifts (g.S.SpanTable.seen c.args.set.now).others, c.entry_count-i-end.ensures.count);
      before = rw (to_z-of_z c.ranges.local, to_z-of_z c.ranges.offset) at c.loop-i.invariant;
      after = λ j l m. le_le _ _ _ from (c.requires.accepted.times c.loop-i.i j l m);
    }

pub loop-i-preserved : goal.loop-i-preserved
loop-i-preserved g c j l =
    let fits : FitsSigned w64 c.time.result = search rules in
    let shifts = shifts_of (g.S.SpanTable.seen c.args.set.now) in
    let bound = to_z w64 (of_z w64 c.args.local) -ℤ to_z w64 (of_z w64 c.args.offset) in
    let here = c.is_before.ensures.0 c.if-not-is_before.false in
    ⊎_elim {C = (shift_at shifts j).0 <ℤ bound}
    (λ lt. c.loop-i.invariant j lt)
    (λ le. let e : c.loop-i.i ≡ j = omega arith in
    subst (λ n. (shift_at shifts n).0 <ℤ bound) e (subst (λ x. x <ℤ bound) (to_z-of_z fits ∙ c.time.ensures) here))
    (cases_lt j c.loop-i.i)

pub returns : goal.returns
returns g c =
    let before = rw (to_z-of_z c.ranges.local, to_z-of_z c.ranges.offset) at c.loop-i.invariant in
    record {
      within = omega (arith, length-shifts (g.S.SpanTable.seen c.args.set.now).others, c.entry_count.ensures.count);
      before = λ j l. before j (omega (arith, c.entry_count.ensures.count, c.entry_count-i-end.ensures.count));
      after = λ j l m. absurd (omega (arith, length-shifts (g.S.SpanTable.seen c.args.set.now).others, c.entry_count.ensures.count));
    }
