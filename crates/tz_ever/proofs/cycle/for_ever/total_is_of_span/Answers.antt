use Rattle.tz_ever.proofs.cycle.ForEverLemmas.{total_for_ever-is}
use Rattle.tz_ever.proofs.cycle.for_ever.total_is_of_span.Goals as goal

pub returns : goal.returns
returns c = total_for_ever-is
