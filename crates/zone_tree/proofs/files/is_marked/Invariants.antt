use Rattle.zone_tree.proofs.EverLemmas.{MarksLeft}
use Rattle.zone_tree.proofs.files.is_marked.Given as goal

abbrev pub invariant-loop-number : goal.invariant-loop-number
invariant-loop-number g l = MarksLeft (g.S.SpanTable.seen l.set).others l.number
