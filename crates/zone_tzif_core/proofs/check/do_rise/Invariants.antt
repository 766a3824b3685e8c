use Rattle.zone_tzif_core.{specs.Check.{times_in}, proofs.LoopLemmas.{RiseFrom}}
use Rattle.zone_tzif_core.proofs.check.do_rise.Given as goal

abbrev pub invariant-loop-i : goal.invariant-loop-i
invariant-loop-i l = RiseFrom (times_in l.wide l.count l.times) l.i
