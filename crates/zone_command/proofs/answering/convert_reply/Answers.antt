use Rattle.zone_command.{specs.Replies.{at_fault, convert_lines}, proofs.AnswerLemmas.{answered_both}}
use Rattle.zone_command.proofs.answering.convert_reply.Goals as goal

pub returns : goal.returns
returns g c =
    let from = c.args.from_name.now in
    let to = c.args.style.now.name.now in
    answered_both (g.S.ZoneSource.found c.args.source.now) from to (λ view. at_fault view from to c.args.local.now)
    (λ view other. convert_lines c.args.style.now.form view from other to c.args.local.now)
    c.convert_lines-lines.result c.told_between.result c.in_ok-from.ensures.ok c.in_ok-to.ensures.ok c.convert_lines-lines.ensures c.told_between.ensures
