use Rattle.zone_tail.proofs.LineLemmas.{one_line}
use Rattle.zone_tail.proofs.laws.one_line.Goals as goal

pub returns : goal.returns
returns c = one_line
