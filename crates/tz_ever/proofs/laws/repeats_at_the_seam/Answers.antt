use Rattle.tz_ever.proofs.ForEverLemmas.{repeats_at_seam}
use Rattle.tz_ever.proofs.laws.repeats_at_the_seam.Goals as goal

pub returns : goal.returns
returns c = repeats_at_seam c.shows_over_enough_years.ensures c.repeats.ensures
