use Rattle.tz_ever.proofs.cycle.SeamLemmas.{seam-by_clock}
use Rattle.tz_ever.proofs.cycle.years.saving_repeats_by_one_clock.Goals as goal

pub returns : goal.returns
returns c = seam-by_clock
