use Rattle.tz_ever.proofs.cycle.ForEverLemmas.{repeats-at}
use Rattle.tz_ever.proofs.cycle.for_ever.repeats.Goals as goal

pub returns : goal.returns
returns c = repeats-at
