use Rattle.tz_ever.proofs.UnrolledShows.{accepted}
use Rattle.tz_ever.proofs.laws.unrolled_is_accepted.Goals as goal

pub returns : goal.returns
returns c = accepted
