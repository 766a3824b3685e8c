use Rattle.zone_tzif_core.proofs.LoopLemmas.{rises_kept, rises_refused, rises_end}
use Rattle.zone_tzif_core.proofs.shifts.do_rise.Goals as goal

pub returns-then-not-rises : goal.returns-then-not-rises
returns-then-not-rises g c =
    rises_refused c.args.shifts.now c.loop-i.i c.index-shifts-i.result c.index-shifts-i-in-loop-i.result c.loop-i.auto.i c.loop-i-test.true c.index-shifts-i.is c.index-shifts-i-in-loop-i.is c.if-not-rises.ensures c.loop-i.invariant

pub loop-i-preserved : goal.loop-i-preserved
loop-i-preserved g c =
    rises_kept c.args.shifts.now c.loop-i.i c.index-shifts-i.result c.index-shifts-i-in-loop-i.result c.loop-i.auto.i c.loop-i-test.true c.index-shifts-i.is c.index-shifts-i-in-loop-i.is c.if-not-rises.ensures c.loop-i.invariant

pub returns : goal.returns
returns g c = rises_end c.args.shifts.now c.loop-i.i c.loop-i.auto.i c.loop-i-test.false c.loop-i.invariant
