use Rattle.std.{proofs.Common.{ap, sym}, specs.Option.{option_copied}}
use Rattle.zone_tree.proofs.TreeLemmas.{none_first}
use Rattle.zone_tree.proofs.whole.put_first.Goals as goal

pub returns-in-None-clause-ok : goal.returns-in-None-clause-ok
returns-in-None-clause-ok c = none_first _ _ (ap option_copied (sym c.in-None.is))
