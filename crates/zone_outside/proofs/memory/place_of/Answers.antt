use Rattle.zone_outside.proofs.MemoryLemmas.{placed}
use Rattle.zone_outside.proofs.memory.place_of.Goals as goal

pub returns : goal.returns
returns c = placed c.args.files.now c.args.name.now c.place_named.result c.place_named.ensures
