use Rattle.zone_tzif_core.proofs.PutLemmas.{PlaceSoFar}
use Rattle.zone_tzif_core.proofs.write.name_place.Given as goal

abbrev pub invariant-loop-other : goal.invariant-loop-other
invariant-loop-other l = PlaceSoFar l.names l.name l.other-index l.place
