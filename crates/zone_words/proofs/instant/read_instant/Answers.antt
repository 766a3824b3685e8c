use Rattle.zone_words.proofs.ExactLemmas.{asked_exact}
use Rattle.zone_words.proofs.instant.read_instant.Goals as goal

pub returns-clause-exact : goal.returns-clause-exact
returns-clause-exact c = asked_exact c.args.text.now c.asked_for.result c.asked_for.ensures.value
