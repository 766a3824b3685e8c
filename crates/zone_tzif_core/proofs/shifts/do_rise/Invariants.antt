use Rattle.std.proofs.Common.{map}
use Rattle.zone_tzif_core.proofs.LoopLemmas.{RiseFrom}
use Rattle.zone_tzif_core.proofs.shifts.do_rise.Given as goal

abbrev pub invariant-loop-i : goal.invariant-loop-i
invariant-loop-i g l = RiseFrom (map (λ shift. shift.0) l.shifts) l.i
