use Rattle.tz_ever.proofs.SecondLemmas.{zone_by_seconds}
use Rattle.tz_ever.proofs.laws.zone_holds_in_seconds.Goals as goal

pub returns : goal.returns
returns c = zone_by_seconds
