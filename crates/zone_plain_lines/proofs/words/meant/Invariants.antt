use Rattle.zone_plain_lines.proofs.WordLemmas.{IsSoFar}
use Rattle.zone_plain_lines.proofs.words.meant.Given as goal

abbrev pub invariant-loop-entry : goal.invariant-loop-entry
invariant-loop-entry g l = IsSoFar l.fn.words l.fn.text l.found l.entry-index
