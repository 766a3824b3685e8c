use Rattle.zone_tzif.{specs.Causes.{name_in}, proofs.CauseLemmas.{FitsSoFar}}
use Rattle.zone_tzif.proofs.causes.do_fit.Given as goal

abbrev pub invariant-loop-number : goal.invariant-loop-number
invariant-loop-number g l = FitsSoFar (name_in (g.S.SpanTable.seen l.set)) l.numbers l.number-index l.left
