use Rattle.tz_ever.proofs.cycle.DayLemmas.{date-repeats}
use Rattle.tz_ever.proofs.cycle.days.days_repeat.Goals as goal

pub returns : goal.returns
returns c = date-repeats
