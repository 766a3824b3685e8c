use Rattle.zone_source.{specs.LinesLeft.{lines_left}, proofs.JoinLemmas.{HasJoined}}
use Rattle.zone_source.proofs.table.read_table.Given as goal

abbrev pub invariant-loop-line : goal.invariant-loop-line
invariant-loop-line l = HasJoined l.source l.builder l.number (lines_left l.line-iterator)
