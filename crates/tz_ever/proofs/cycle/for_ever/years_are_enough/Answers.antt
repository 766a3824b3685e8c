use Rattle.tz_ever.proofs.cycle.ForEverLemmas.{years-enough}
use Rattle.tz_ever.proofs.cycle.for_ever.years_are_enough.Goals as goal

pub returns : goal.returns
returns c = years-enough
