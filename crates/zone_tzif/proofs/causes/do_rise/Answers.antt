use Rattle.std.proofs.Common.{true, false, refl, arith}
use Rattle.zone_tzif.proofs.CauseLemmas.{rise_not, rise_more, rise_end}
use Rattle.zone_tzif.proofs.causes.do_rise.Goals as goal

pub returns-then-not-rises : goal.returns-then-not-rises
returns-then-not-rises g c =
    rise_not (g.S.SpanTable.seen c.args.set.now) c.loop-place.place c.loop-place.auto.place (omega (arith, c.entry_count-place-end.ensures.count))
    c.loop-place.invariant false c.if-not-rises.ensures refl

pub loop-place-preserved : goal.loop-place-preserved
loop-place-preserved g c =
    rise_more (g.S.SpanTable.seen c.args.set.now) c.loop-place.place c.loop-place.auto.place (omega (arith, c.entry_count-place-end.ensures.count))
    c.loop-place.invariant true c.if-not-rises.ensures refl

pub returns : goal.returns
returns g c =
    rise_end (g.S.SpanTable.seen c.args.set.now) c.loop-place.place c.loop-place.auto.place (omega (arith, c.entry_count-place-end.ensures.count))
    c.loop-place.invariant
