use Rattle.tz_ever.proofs.cycle.ForEverLemmas.{repeats-cycles}
use Rattle.tz_ever.proofs.cycle.for_ever.repeats_in_each_cycle.Goals as goal

pub returns : goal.returns
returns c = repeats-cycles
