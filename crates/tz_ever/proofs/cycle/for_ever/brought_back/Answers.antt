use Rattle.tz_ever.proofs.cycle.EnoughLemmas.{brought_back-at}
use Rattle.tz_ever.proofs.cycle.for_ever.brought_back.Goals as goal

pub returns : goal.returns
returns c = brought_back-at
