use Rattle.tz_ever.proofs.ToldLemmas.{shown}
use Rattle.tz_ever.proofs.laws.told_shows.Goals as goal

pub returns : goal.returns
returns c = shown c.unrolled_shows.ensures
