use Rattle.zone_tree.proofs.EverLemmas.{ContentLeft}
use Rattle.zone_tree.proofs.ever.EverFilesZoneFiles.file.Given as goal

abbrev pub invariant-loop-made : goal.invariant-loop-made
invariant-loop-made l = ContentLeft l.self.made.items l.made-index l.name
