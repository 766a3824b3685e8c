use Rattle.tz_ever.proofs.cycle.EnoughLemmas.{before_2100-at}
use Rattle.tz_ever.proofs.cycle.for_ever.before_2100.Goals as goal

pub returns : goal.returns
returns c = before_2100-at
