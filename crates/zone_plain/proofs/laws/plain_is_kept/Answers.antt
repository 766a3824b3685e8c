use Rattle.zone_plain.proofs.KeptLaws as laws
use Rattle.zone_plain.proofs.laws.plain_is_kept.Goals as goal

pub returns : goal.returns
returns c = laws.plain_is_kept
