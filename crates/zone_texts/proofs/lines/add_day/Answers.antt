use Rattle.std.proofs.{Common.{◌≡◌, true, false, not, map, ap, sym, ◌∙◌}, lemmas.Result.{err_from_is_err_and}}
use Rattle.civil_base.specs.DateTimes.{instant}
use Rattle.zone_texts.{specs.{DueLaws.{moved}, Faults.{behind}, Instants.{is_untold}, Days.{is_on}, Rings.{counts, lines_due, time_on}}, proofs.RungLemmas.{not_on, not_told, quiet, some_rings, told_at}}
use Rattle.zone_texts.proofs.lines.add_day.Goals as goal
use Rattle.zone_words.specs.TaskShown.{alarm_shown}

pub returns-then-not-is_on-clause-ok : goal.returns-then-not-is_on-clause-ok
returns-then-not-is_on-clause-ok g c =
    let view = g.Z.ReplyZone.view c.args.zone.now in
    let alarm = alarm_shown c.args.alarm.now in
    let off : is_on alarm.days c.args.date ≡ false = sym c.is_on.ensures ∙ c.if-not-is_on.true in
    quiet c.args.style.now.form view c.args.style.now.name.now c.args.into.now.items _ (not_on view alarm c.args.date c.requires off)

pub returns-then-not-is_on-clause-rung : goal.returns-then-not-is_on-clause-rung
returns-then-not-is_on-clause-rung g c =
    let view = g.Z.ReplyZone.view c.args.zone.now in
    let alarm = alarm_shown c.args.alarm.now in
    let off : is_on alarm.days c.args.date ≡ false = sym c.is_on.ensures ∙ c.if-not-is_on.true in
    sym (ap counts (not_on view alarm c.args.date c.requires off))

pub returns-then-is_untold-clause-err : goal.returns-then-is_untold-clause-err
returns-then-is_untold-clause-err g c =
    let view = g.Z.ReplyZone.view c.args.zone.now in
    let alarm = alarm_shown c.args.alarm.now in
    let on : is_on alarm.days c.args.date ≡ true = sym c.is_on.ensures ∙ c.if-not-is_on.false in
    let untold : is_untold view (time_on c.args.date alarm.time) ≡ true =
    ap (is_untold view) (sym c.new-local.ensures) ∙ sym c.is_untold.ensures ∙ c.if-is_untold.true in
    ap (lines_due c.args.style.now.form view c.args.style.now.name.now) (not_told view alarm c.args.date c.requires on untold)

pub returns-in_err-add_lines-clause-err : goal.returns-in_err-add_lines-clause-err
returns-in_err-add_lines-clause-err g c =
    let view = g.Z.ReplyZone.view c.args.zone.now in
    let alarm = alarm_shown c.args.alarm.now in
    let rung = told_at view alarm c.args.date c.new-local.result _ c.new-local.ensures c.requires (sym c.is_on.ensures ∙ c.if-not-is_on.false)
    (sym c.is_untold.ensures ∙ c.if-is_untold.false) (ap (map instant) c.as_slice-dates.ensures.value ∙ c.in_ok-rings.ensures) in
    let p = err_from_is_err_and c.from_residual-in_err-add_lines.result c.from_residual-in_err-add_lines.ensures.1 in
    rw (p.1, p.2) (moved _ _ (sym (ap (lines_due c.args.style.now.form view c.args.style.now.name.now) rung)) _ c.in_err-add_lines.ensures.err)

pub returns-clause-ok : goal.returns-clause-ok
returns-clause-ok g c =
    let view = g.Z.ReplyZone.view c.args.zone.now in
    let alarm = alarm_shown c.args.alarm.now in
    let rung = told_at view alarm c.args.date c.new-local.result _ c.new-local.ensures c.requires (sym c.is_on.ensures ∙ c.if-not-is_on.false)
    (sym c.is_untold.ensures ∙ c.if-is_untold.false) (ap (map instant) c.as_slice-dates.ensures.value ∙ c.in_ok-rings.ensures) in
    c.in_ok-add_lines.ensures.ok ∙ sym (ap (λ r. behind c.args.into.now.items (lines_due c.args.style.now.form view c.args.style.now.name.now r)) rung)

pub returns-clause-rung : goal.returns-clause-rung
returns-clause-rung g c =
    let view = g.Z.ReplyZone.view c.args.zone.now in
    let alarm = alarm_shown c.args.alarm.now in
    ap not c.is_empty.ensures ∙ some_rings instant c.as_slice-dates.result.now
    ∙ sym (ap counts (told_at view alarm c.args.date c.new-local.result _ c.new-local.ensures c.requires (sym c.is_on.ensures ∙ c.if-not-is_on.false)
    (sym c.is_untold.ensures ∙ c.if-is_untold.false) (ap (map instant) c.as_slice-dates.ensures.value ∙ c.in_ok-rings.ensures)))
