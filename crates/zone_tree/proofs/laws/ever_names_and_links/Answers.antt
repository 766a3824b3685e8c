use Rattle.zone_tree.proofs.EverLemmas.{ever_tree}
use Rattle.zone_tree.proofs.laws.ever_names_and_links.Goals as goal

pub returns : goal.returns
returns c = ever_tree
