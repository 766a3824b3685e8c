use Rattle.tz_ever.proofs.cycle.EnoughLemmas.{stable-at}
use Rattle.tz_ever.proofs.cycle.for_ever.stable.Goals as goal

pub returns : goal.returns
returns c = stable-at
