use Rattle.zone_tzif_core.proofs.ExactLemmas.{said, same}
use Rattle.zone_tzif_core.proofs.laws.denoted_is_said.Goals as goal

pub returns-clause-said : goal.returns-clause-said
returns-clause-said c = said

pub returns-clause-same : goal.returns-clause-same
returns-clause-same c = same
