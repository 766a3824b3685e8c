use Rattle.tz_tzif.proofs.CycleLemmas.{held-on}
use Rattle.tz_tzif.proofs.repeats.footers_repeat.Goals as goal

pub returns : goal.returns
returns c = held-on c.days_repeat.ensures c.weekdays_repeat.ensures c.months_repeat.ensures
