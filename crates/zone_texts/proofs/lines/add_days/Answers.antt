use Rattle.std.proofs.{Common.{◌≡◌, ℕ, ◌+◌, ◌-◌, ◌<◌, ◌≤◌, ap, sym, ◌∙◌, arith}, lemmas.Result.{err_from_is_err_and}}
use Rattle.zone_texts.{specs.{Faults.{behind}, Days.{count_between, days_between, last_of, step_of}, Rings.{lines_on}}, proofs.RungLemmas.{loop_end, loop_fault, loop_full, loop_more, rungs}}
use Rattle.zone_texts.proofs.lines.add_days.Goals as goal
use Rattle.zone_words.specs.{TaskShown.{alarm_shown}, Tasks.{AlarmAsked}}

-- how many days there are
abbrev count_of : AlarmAsked → ℕ
count_of alarm = count_between alarm.first (last_of alarm.until (step_of alarm.every)) (step_of alarm.every)

counted : (alarm : AlarmAsked) (step end : ℕ) → end ≡ count_between alarm.first (last_of alarm.until step) step → step ≡ step_of alarm.every → end ≡ count_of alarm
counted alarm step end is every = is ∙ ap (λ s. count_between alarm.first (last_of alarm.until s) s) every

pub loop-past-init : goal.loop-past-init
unfolding days_between
loop-past-init g c =
    let view = g.Z.ReplyZone.view c.args.zone.now in
    let alarm = alarm_shown c.args.alarm.now in
    let all : count_of alarm - 0 ≡ count_of alarm = omega arith in
    ap (λ n. behind c.args.into.now.items (lines_on c.args.style.now.form view c.args.style.now.name.now alarm.count (rungs view alarm (step_of alarm.every) 0 n))) all

pub returns-then-is_full-clause-ok : goal.returns-then-is_full-clause-ok
returns-then-is_full-clause-ok g c =
    let view = g.Z.ReplyZone.view c.args.zone.now in
    loop_full c.args.style.now.form view c.args.style.now.name.now c.loop-past.left _ c.args.into.now.items c.loop-past.into.items _
    (sym c.is_full.ensures ∙ c.if-is_full.true) c.loop-past.invariant

pub returns-in_err-rung-clause-err : goal.returns-in_err-rung-clause-err
returns-in_err-rung-clause-err g c =
    let view = g.Z.ReplyZone.view c.args.zone.now in
    let alarm = alarm_shown c.args.alarm.now in
    let all = counted alarm c.step_of.result c.count_between-past-end.result c.count_between-past-end.ensures.value c.step_of.ensures.value in
    let inside : c.loop-past.past < count_of alarm = omega (arith, all) in
    let p = err_from_is_err_and c.from_residual.result c.from_residual.ensures.1 in
    rw (p.1, p.2) (loop_fault c.args.style.now.form view c.args.style.now.name.now alarm (step_of alarm.every) (count_of alarm) c.loop-past.past c.args.into.now.items
    c.loop-past.into.items c.loop-past.left _ inside (sym c.is_full.ensures ∙ c.if-is_full.false) c.loop-past.invariant _ c.in_err-rung.ensures.err)

pub loop-past-preserved : goal.loop-past-preserved
loop-past-preserved g c =
    let view = g.Z.ReplyZone.view c.args.zone.now in
    let alarm = alarm_shown c.args.alarm.now in
    let form = c.args.style.now.form in
    let name = c.args.style.now.name.now in
    let past = c.loop-past.past in
    let all = counted alarm c.step_of.result c.count_between-past-end.result c.count_between-past-end.ensures.value c.step_of.ensures.value in
    let inside : past < count_of alarm = omega (arith, all) in
    ap (λ left. behind c.add_day_after.new.into.items (lines_on form view name left (rungs view alarm (step_of alarm.every) (past + 1) (count_of alarm - (past + 1)))))
    c.left_after-left.ensures
    ∙ loop_more form view name alarm (step_of alarm.every) (count_of alarm) past c.args.into.now.items c.loop-past.into.items c.loop-past.left _
    c.add_day_after.new.into.items c.in_ok-rung.rung inside (sym c.is_full.ensures ∙ c.if-is_full.false) c.loop-past.invariant
    c.in_ok-rung.ensures.ok c.in_ok-rung.ensures.rung

pub returns-clause-ok : goal.returns-clause-ok
returns-clause-ok g c =
    let view = g.Z.ReplyZone.view c.args.zone.now in
    let alarm = alarm_shown c.args.alarm.now in
    let all = counted alarm c.step_of.result c.count_between-past-end.result c.count_between-past-end.ensures.value c.step_of.ensures.value in
    let outside : count_of alarm ≤ c.loop-past.past = omega (arith, all) in
    loop_end c.args.style.now.form view c.args.style.now.name.now alarm (step_of alarm.every) (count_of alarm) c.loop-past.past c.loop-past.left c.args.into.now.items
    c.loop-past.into.items _ outside c.loop-past.invariant
