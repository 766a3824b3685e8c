use Rattle.zone_spans.specs.Kept.{AreBelow}
use Rattle.zone_spans.proofs.kept.count_below.Given as goal

abbrev pub invariant-loop-i : goal.invariant-loop-i
invariant-loop-i l = AreBelow l.second l.i l.summaries
