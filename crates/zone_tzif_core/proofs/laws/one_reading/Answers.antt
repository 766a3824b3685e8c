use Rattle.zone_tzif_core.proofs.ExactLemmas.{one_reading}
use Rattle.zone_tzif_core.proofs.laws.one_reading.Goals as goal

pub returns : goal.returns
returns c = one_reading
