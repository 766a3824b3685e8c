use Rattle.zone_tree.proofs.TreeLemmas.{tree_is}
use Rattle.zone_tree.proofs.laws.same_by_table.Goals as goal

pub returns : goal.returns
returns c = λ source table sound is. tree_is table source sound is
