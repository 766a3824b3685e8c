use Rattle.std.proofs.Common.{◌∙◌}
use Rattle.zone_answers.proofs.RequestLemmas.{space_found}
use Rattle.zone_answers.proofs.request.space_in.Goals as goal

pub returns-clause-place : goal.returns-clause-place
returns-clause-place c = c.unwrap_or.ensures ∙ space_found c.args.text.now c.memchr.result c.memchr.ensures
