use Rattle.tz_ever.proofs.TotalLemmas.{same_in_force}
use Rattle.tz_ever.proofs.laws.reads_alike.Goals as goal

pub returns : goal.returns
returns c = same_in_force
