use Rattle.std.proofs.Common.{ap, sym, ◌∙◌}
use Rattle.zone_texts.{specs.{Days.{day_after, is_dated, step_of}, Rings.{lines_due}}, proofs.RungLemmas.{not_dated}}
use Rattle.zone_texts.proofs.lines.add_day_after.Goals as goal
use Rattle.zone_words.specs.TaskShown.{alarm_shown}

pub returns-in-None-clause-err : goal.returns-in-None-clause-err
returns-in-None-clause-err g c =
    let view = g.Z.ReplyZone.view c.args.zone.now in
    let alarm = alarm_shown c.args.alarm.now in
    ap (lines_due c.args.style.now.form view c.args.style.now.name.now)
    (not_dated view alarm (day_after alarm.first (step_of alarm.every) c.args.past)
    (sym (c.in-None.ensures.dated ∙ ap (λ step. is_dated (day_after alarm.first step c.args.past)) c.step_of.ensures.value)))
