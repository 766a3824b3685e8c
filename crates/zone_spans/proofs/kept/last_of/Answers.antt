use Rattle.std.proofs.Common.{Some, ap, ◌∙◌, arith}
use Rattle.zone_spans.proofs.KeptLemmas.{last_more}
use Rattle.zone_spans.proofs.kept.last_of.Goals as goal

pub loop-firing-preserved : goal.loop-firing-preserved
loop-firing-preserved c =
    ap Some c.copy.ensures
    ∙ last_more c.args.before c.args.fired.now c.loop-firing.firing-index c.firing-item.result c.loop-firing.last (omega arith) c.firing-item.is
    c.loop-firing.invariant
