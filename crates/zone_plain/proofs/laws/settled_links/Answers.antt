use Rattle.zone_plain.proofs.SettledLaws.{zones_stay, names_lead, targets_are_zones}
use Rattle.zone_plain.proofs.laws.settled_links.Goals as goal

pub returns : goal.returns
returns c = record { zones = zones_stay; names = names_lead; targets = targets_are_zones }
