use Rattle.zone_plain.proofs.LinkLemmas.{lacks}
use Rattle.zone_plain.proofs.links.lacks_rules.Goals as goal

pub returns-in-Multiple : goal.returns-in-Multiple
returns-in-Multiple c values declared = rw c.in-Multiple.is (lacks _ values _ _ declared c.contains_key.ensures)
