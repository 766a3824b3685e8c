use Rattle.zone_tzif_core.proofs.ExactLemmas.{one_saying}
use Rattle.zone_tzif_core.proofs.laws.one_saying.Goals as goal

pub returns : goal.returns
returns c = one_saying
