use Rattle.tz_ever.proofs.UnrolledShows.{reads}
use Rattle.tz_ever.proofs.laws.unrolled_reads.Goals as goal

pub returns : goal.returns
returns c = reads c.unrolled_shows.ensures
