use Rattle.tz_ever.proofs.UnrolledShows.{shown}
use Rattle.tz_ever.proofs.laws.unrolled_shows.Goals as goal

pub returns : goal.returns
returns c = shown
