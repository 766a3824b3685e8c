use Rattle.tz_ever.proofs.cycle.DayLemmas.{weekday_of-repeats}
use Rattle.tz_ever.proofs.cycle.days.weekdays_repeat.Goals as goal

pub returns : goal.returns
returns c = weekday_of-repeats
