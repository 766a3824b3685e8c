use Rattle.zone_tree.proofs.LawLemmas.{tree_is}
use Rattle.zone_tree.proofs.laws.names_and_links.Goals as goal

pub returns : goal.returns
returns c = tree_is
