use Rattle.zone_tzif.proofs.CauseLemmas.{RiseSoFar}
use Rattle.zone_tzif.proofs.causes.do_rise.Given as goal

abbrev pub invariant-loop-place : goal.invariant-loop-place
invariant-loop-place g l = RiseSoFar (g.S.SpanTable.seen l.set).others l.place
