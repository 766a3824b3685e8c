use Rattle.zone_command.proofs.AnswerLemmas.{answered}
use Rattle.zone_command.proofs.answering.alarm_reply.Goals as goal
use Rattle.zone_texts.specs.Rings.{rings_due}
use Rattle.zone_words.specs.TaskShown.{alarm_shown}

pub returns : goal.returns
returns g c =
    let name = c.args.style.now.name.now in
    answered (g.S.ZoneSource.found c.args.source.now) name name
    (λ view. rings_due c.args.style.now.form view name (alarm_shown c.args.alarm.now))
    c.ring_lines-lines.result c.told.result c.in_ok-zone.ensures.ok c.ring_lines-lines.ensures c.told.ensures
