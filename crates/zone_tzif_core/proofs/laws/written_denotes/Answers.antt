use Rattle.zone_tzif_core.proofs.WrittenLemmas.{written_denotes}
use Rattle.zone_tzif_core.proofs.laws.written_denotes.Goals as goal

pub returns : goal.returns
returns c = written_denotes
