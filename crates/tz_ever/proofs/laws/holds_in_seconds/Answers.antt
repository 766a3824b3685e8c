use Rattle.tz_ever.proofs.SecondLemmas.{by_seconds}
use Rattle.tz_ever.proofs.laws.holds_in_seconds.Goals as goal

pub returns : goal.returns
returns c = by_seconds
