use Rattle.tz_ever.proofs.cycle.FiringLemmas.{year_firings-repeats}
use Rattle.tz_ever.proofs.cycle.years.year_firings_repeat.Goals as goal

pub returns : goal.returns
returns c = year_firings-repeats
