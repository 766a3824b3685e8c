use Rattle.zone_plain.proofs.RebuiltLaws.{rebuilt}
use Rattle.zone_plain.proofs.laws.written_is_read.Goals as goal

pub returns : goal.returns
returns c = rebuilt
