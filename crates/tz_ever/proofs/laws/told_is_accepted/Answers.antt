use Rattle.tz_ever.proofs.ToldLemmas.{accepted}
use Rattle.tz_ever.proofs.laws.told_is_accepted.Goals as goal

pub returns : goal.returns
returns c = accepted c.unrolled_is_accepted.ensures
