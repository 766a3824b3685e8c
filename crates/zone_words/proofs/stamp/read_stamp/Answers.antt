use Rattle.zone_words.proofs.StampLemmas.{stamp_exact}
use Rattle.zone_words.proofs.stamp.read_stamp.Goals as goal

pub returns-clause-exact : goal.returns-clause-exact
returns-clause-exact c = stamp_exact c.args.text.now c.sized.result c.sized.ensures.value
