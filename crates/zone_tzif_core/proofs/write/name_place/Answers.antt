use Rattle.zone_tzif_core.proofs.PutLemmas.{place_kept, place_found, place_end}
use Rattle.zone_tzif_core.proofs.write.name_place.Goals as goal

pub returns-then-eq : goal.returns-then-eq
returns-then-eq c = place_found c.args.names.now c.args.name.now c.loop-other.other-index c.loop-other.place _ c.loop-other-test.true c.if-eq.ensures c.loop-other.invariant

pub loop-other-preserved : goal.loop-other-preserved
loop-other-preserved c = place_kept c.args.names.now c.args.name.now c.loop-other.other-index c.loop-other.place _ c.loop-other-test.true c.if-eq.ensures c.loop-other.invariant

pub returns : goal.returns
returns c = place_end c.args.names.now c.args.name.now c.loop-other.other-index c.loop-other.place c.loop-other-test.false c.loop-other.invariant
