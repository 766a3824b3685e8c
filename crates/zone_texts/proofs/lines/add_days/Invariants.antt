use Rattle.std.proofs.Common.{◌≡◌, ◌-◌}
use Rattle.zone_texts.{specs.{Faults.{behind}, Days.{count_between, last_of, step_of}, Rings.{lines_on, rings_due}}, proofs.RungLemmas.{rungs}}
use Rattle.zone_texts.proofs.lines.add_days.Given as goal
use Rattle.zone_words.specs.TaskShown.{alarm_shown}

abbrev pub invariant-loop-past : goal.invariant-loop-past
invariant-loop-past g l =
    let view = g.Z.ReplyZone.view l.zone in
    let alarm = alarm_shown l.alarm in
    let step = step_of l.alarm.every in
    let count = count_between l.alarm.first (last_of l.alarm.until step) step in
    behind l.into.items (lines_on l.style.form view l.style.name.now l.left (rungs view alarm step l.past (count - l.past)))
    ≡ behind l.fn.into.items (rings_due l.style.form view l.style.name.now alarm)
