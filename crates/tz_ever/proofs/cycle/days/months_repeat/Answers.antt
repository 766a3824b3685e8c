use Rattle.tz_ever.proofs.cycle.DayLemmas.{month-repeats}
use Rattle.tz_ever.proofs.cycle.days.months_repeat.Goals as goal

pub returns : goal.returns
returns c = month-repeats
