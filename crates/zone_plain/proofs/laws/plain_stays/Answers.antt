use Rattle.zone_plain.proofs.CleanLaws as laws
use Rattle.zone_plain.proofs.laws.plain_stays.Goals as goal

pub returns : goal.returns
returns c = laws.plain_stays
