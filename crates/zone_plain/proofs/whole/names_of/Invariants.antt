use Rattle.zone_source.specs.LinesLeft.{lines_left}
use Rattle.zone_plain.proofs.MetLemmas.{HasMet}
use Rattle.zone_plain.proofs.whole.names_of.Given as goal

abbrev pub invariant-loop-line : goal.invariant-loop-line
invariant-loop-line l = HasMet l.fn.source l.names l.is_open (lines_left l.line-iterator)
