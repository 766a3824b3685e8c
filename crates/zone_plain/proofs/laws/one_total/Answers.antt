use Rattle.zone_plain.proofs.OffsetTextLaws as laws
use Rattle.zone_plain.proofs.laws.one_total.Goals as goal

pub returns : goal.returns
returns c = laws.one_total
