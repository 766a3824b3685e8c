use Rattle.zone_command.{specs.Replies.{convert_lines}, proofs.AnswerLemmas.{answered}}
use Rattle.zone_command.proofs.answering.local_reply.Goals as goal

pub returns : goal.returns
returns g c =
    let name = c.args.style.now.name.now in
    answered (g.S.ZoneSource.found c.args.source.now) name name
    (λ view. convert_lines c.args.style.now.form view name view name c.args.local.now)
    c.convert_lines-lines.result c.told.result c.in_ok-zone.ensures.ok c.convert_lines-lines.ensures c.told.ensures
