use Rattle.tz_ever.proofs.cycle.EnoughLemmas.{enough-at}
use Rattle.tz_ever.proofs.cycle.for_ever.shows_over_enough_years.Goals as goal

pub returns : goal.returns
returns c = enough-at
