use Rattle.std.proofs.Common.{◌∙◌, ap}
use Rattle.zone_words.{specs.Readings.{local_in}, proofs.ExactLemmas.{local_exact}}
use Rattle.zone_words.proofs.local.read_local.Goals as goal

pub returns-clause-exact : goal.returns-clause-exact
returns-clause-exact c = local_exact c.args.text.now c.local_of.result (c.local_of.ensures ∙ ap local_in c.as_bytes.ensures.value)
