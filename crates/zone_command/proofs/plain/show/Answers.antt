use Rattle.std.{proofs.Common.{◌++◌, ap, sym, ◌∙◌, subst}, proofs.lemmas.Option.{IfSome_then}}
use Rattle.zone_answers.specs.{Asked.{asked}, Due.{answer_text, shown_at}}
use Rattle.zone_command.{specs.Days.{IsDayOf}, proofs.plain.show.Goals.{then-line, else-line}}
use Rattle.zone_command.proofs.plain.show.Goals as goal

pub returns-after-line-clause-day : goal.returns-after-line-clause-day
returns-after-line-clause-day g c =
    let text = c.args.line.now.text.now in
    let line = answer_text (shown_at (g.Z.OpenedZone.total_at c.args.zone.now) (asked c.args.line.now.spelled.now.request)) in
    let shown = c.in-Ok-true.ensures.line c.in-Ok-true.field-0-test ∙ ap (λ t. t ++ line) c.clear.ensures.items in
    elim c.if-line.branch [
      | then-line w ↦ λ names asks found. subst (λ reply. IsDayOf names text reply.day) (sym w.reply-is)
          (IfSome_then w.of-reply.result w.of-reply.ensures.day (λ day law. law names asks found (w.deref.ensures.value ∙ shown) c.show_spelled.ensures.range))
      | else-line w ↦ λ names asks found. subst (λ reply. IsDayOf names text reply.day) (sym w.reply-is) tt
    ]
