use Rattle.zone_plain.specs.TableLaws.{made_ruleset}
use Rattle.zone_plain.proofs.laws.made_rulesets.Goals as goal

pub returns : goal.returns
returns c = made_ruleset
