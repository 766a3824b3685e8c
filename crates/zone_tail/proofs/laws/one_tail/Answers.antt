use Rattle.zone_tail.proofs.FoundLemmas.{found}
use Rattle.zone_tail.proofs.laws.one_tail.Goals as goal

pub returns : goal.returns
returns c set from text accepted tail = found set from text accepted tail
