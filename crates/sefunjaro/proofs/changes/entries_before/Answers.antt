use Rattle.std.proofs.Common.{◌≡◌, ◌+◌, ◌-◌, ◌/◌, ◌<◌, length, to_z, of_z, to_z-of_z, w64, subst, arith}
use Rattle.tz_lookup.specs.Sets.{shifts_of}
use Rattle.sefunjaro.{specs.ChangeSteps.{AreParted}, proofs.ChangeLemmas.{after_more, before_more, parted_at}}
use Rattle.sefunjaro.proofs.changes.entries_before.Goals as goal

pub loop-low-preserved-then-is_before : goal.loop-low-preserved-then-is_before
loop-low-preserved-then-is_before g c =
    let set = g.S.SpanTable.seen c.args.set.now in let low = c.loop-low.low in let high = c.loop-low.high in let middle = low + (high - low) / 2 in
    let invariant = c.loop-low.invariant in
    let within : middle < length set.others = omega (arith, c.loop-low-test.true, invariant.within) in record {
      order = omega (arith, c.loop-low-test.true);
      within = invariant.within;
      before = before_more set.others middle (to_z w64 (of_z w64 c.args.second)) c.requires.times within c.if-is_before.ensures;
      after = invariant.after;
    }

pub loop-low-preserved : goal.loop-low-preserved
loop-low-preserved g c =
    let set = g.S.SpanTable.seen c.args.set.now in let low = c.loop-low.low in let high = c.loop-low.high in let middle = low + (high - low) / 2 in
    let invariant = c.loop-low.invariant in record {
      order = omega arith;
      within = omega (arith, c.loop-low-test.true, invariant.within);
      before = invariant.before;
      after = after_more set.others middle (to_z w64 (of_z w64 c.args.second)) c.requires.times c.if-is_before.ensures;
    }

pub returns : goal.returns
returns g c =
    let set = g.S.SpanTable.seen c.args.set.now in let invariant = c.loop-low.invariant in
    let same : to_z w64 (of_z w64 c.args.second) ≡ c.args.second = to_z-of_z c.ranges.second in
    subst (AreParted (shifts_of set) c.loop-low.low) same
    (parted_at set.others c.loop-low.low c.loop-low.high (to_z w64 (of_z w64 c.args.second)) invariant.order
    (omega (arith, c.loop-low-test.false)) invariant.within invariant.before invariant.after)
