use Rattle.tz_ever.proofs.cycle.ForEverLemmas.{as_before-at}
use Rattle.tz_ever.proofs.cycle.for_ever.as_before.Goals as goal

pub returns : goal.returns
returns c = as_before-at
