use Rattle.zone_tree.proofs.EverLemmas.{MadeSoFar}
use Rattle.zone_tree.proofs.ever.EverFiles.of.Given as goal

abbrev pub invariant-loop-name : goal.invariant-loop-name
invariant-loop-name l = MadeSoFar l.table l.name-items l.name-index l.made.items
