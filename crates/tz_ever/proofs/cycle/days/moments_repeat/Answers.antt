use Rattle.tz_ever.proofs.cycle.MomentLemmas.{moment-repeats}
use Rattle.tz_ever.proofs.cycle.days.moments_repeat.Goals as goal

pub returns : goal.returns
returns c = moment-repeats
