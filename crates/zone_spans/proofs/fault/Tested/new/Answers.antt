use Rattle.zone_spans.proofs.TestedLemmas.{none_leaves_yet}
use Rattle.zone_spans.proofs.fault.Tested.new.Goals as goal

pub returns-clause-tested : goal.returns-clause-tested
returns-clause-tested c = none_leaves_yet c.args.rules.now
