use Rattle.zone_source.specs.LinesLeft.{lines_left}
use Rattle.zone_plain.proofs.UnderLemmas.{HasReadUnder}
use Rattle.zone_plain.proofs.whole.read_under.Given as goal

abbrev pub invariant-loop-line : goal.invariant-loop-line
invariant-loop-line l = HasReadUnder l.fn.source l.lines l.fn.mark l.is_marked l.is_open l.number (lines_left l.line-iterator)
