use Rattle.tz_ever.proofs.ForEverLemmas.{shown_for_ever}
use Rattle.tz_ever.proofs.laws.shows_for_ever.Goals as goal

pub returns : goal.returns
returns c = shown_for_ever c.shows_over_enough_years.ensures c.brought_back.ensures c.total_is_of_span.ensures
