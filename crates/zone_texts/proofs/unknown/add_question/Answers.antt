use Rattle.std.proofs.Common.{sym, ◌∙◌}
use Rattle.zone_texts.proofs.NameLemmas.{asked}
use Rattle.zone_texts.proofs.unknown.add_question.Goals as goal

pub returns : goal.returns
returns c =
    asked (λ name. name.now) c.args.near.now c.args.into.now.items c.extend_from_slice.new.self.items c.add_choices.new.into.items _
    (sym c.is_empty.ensures ∙ c.if-is_empty.false) c.in_ok-extend_from_slice.ensures.items c.in_ok-add_choices.ensures c.in_ok-extend_from_slice-2.ensures.items
