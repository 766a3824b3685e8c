use Rattle.zone_plain.proofs.OwnLaws as laws
use Rattle.zone_plain.proofs.laws.its_own.Goals as goal

pub returns : goal.returns
returns c = laws.its_own
