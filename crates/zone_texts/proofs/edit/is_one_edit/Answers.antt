use Rattle.std.proofs.Common.{◌∙◌}
use Rattle.zone_texts.proofs.EditLemmas.{found_is}
use Rattle.zone_texts.proofs.edit.is_one_edit.Goals as goal

pub returns : goal.returns
returns c = c.is_edit_in_front.ensures ∙ found_is c.args.a.now c.args.b.now c.same_in_front-front.result c.same_in_front-front.ensures.count
