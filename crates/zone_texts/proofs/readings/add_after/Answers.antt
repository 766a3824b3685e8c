use Rattle.std.proofs.{Common.{ℤ}, lemmas.Result.{err_from_is_err_and}}
use Rattle.civil_base.specs.DateTimes.{instant}
use Rattle.zone_texts.specs.{Faults.{Due, behind}, Instants.{shown_due}, DueLaws.{loop_end, loop_fault, loop_more}}
use Rattle.zone_texts.proofs.readings.add_after.Goals as goal

pub returns-in_err-add_behind-clause-err : goal.returns-in_err-add_behind-clause-err
returns-in_err-add_behind-clause-err g c =
    let due : ℤ → Due = λ t. behind c.args.separator.now (shown_due c.args.style.now.form (g.Z.ReplyZone.view c.args.zone.now) c.args.style.now.name.now c.args.kind t) in
    let p = err_from_is_err_and c.from_residual.result c.from_residual.ensures.1 in
    rw (p.1, p.2) (loop_fault due instant c.args.dates.now c.loop-date.date-index c.date-item.result c.date-item.result c.args.into.now.items c.loop-date.into.items _
    c.loop-date-test.true c.date-item.is c.loop-date.invariant _ c.in_err-add_behind.ensures.err)

pub loop-date-preserved : goal.loop-date-preserved
loop-date-preserved g c =
    let due : ℤ → Due = λ t. behind c.args.separator.now (shown_due c.args.style.now.form (g.Z.ReplyZone.view c.args.zone.now) c.args.style.now.name.now c.args.kind t) in
    loop_more due instant c.args.dates.now c.loop-date.date-index c.date-item.result c.date-item.result c.args.into.now.items c.loop-date.into.items
    c.add_behind.new.into.items _ c.loop-date-test.true c.date-item.is c.loop-date.invariant c.in_ok-add_behind.ensures.ok

pub returns-clause-ok : goal.returns-clause-ok
returns-clause-ok g c =
    let due : ℤ → Due = λ t. behind c.args.separator.now (shown_due c.args.style.now.form (g.Z.ReplyZone.view c.args.zone.now) c.args.style.now.name.now c.args.kind t) in
    loop_end due instant c.args.dates.now c.loop-date.date-index c.args.into.now.items c.loop-date.into.items _
    c.loop-date-test.false c.loop-date.invariant
