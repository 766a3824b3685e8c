use Rattle.zone_tzif_core.proofs.WrittenLemmas.{each_denotes}
use Rattle.zone_tzif_core.proofs.laws.each_denotes.Goals as goal

pub returns : goal.returns
returns c = each_denotes
