use Rattle.tz_ever.proofs.OpenLemmas.{zone_today}
use Rattle.tz_ever.proofs.laws.is_today.Goals as goal

pub returns : goal.returns
returns c = zone_today
