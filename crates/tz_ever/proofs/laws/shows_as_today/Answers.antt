use Rattle.tz_ever.proofs.OpenLemmas.{shown_today}
use Rattle.tz_ever.proofs.laws.shows_as_today.Goals as goal

pub returns : goal.returns
returns c = shown_today c.before_2100.ensures c.as_before.ensures
