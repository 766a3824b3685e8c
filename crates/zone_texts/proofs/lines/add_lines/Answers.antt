use Rattle.std.proofs.{Common.{ℤ}, lemmas.Result.{err_from_is_err_and}}
use Rattle.civil_base.specs.DateTimes.{instant}
use Rattle.zone_texts.specs.{DueLaws.{loop_end, loop_fault, loop_more}, Faults.{Due}, Instants.{line_due}}
use Rattle.zone_texts.proofs.lines.add_lines.Goals as goal

pub returns-in_err-add_at_line-clause-err : goal.returns-in_err-add_at_line-clause-err
returns-in_err-add_at_line-clause-err g c =
    let due : ℤ → Due = line_due c.args.style.now.form (g.Z.ReplyZone.view c.args.zone.now) c.args.style.now.name.now in
    let p = err_from_is_err_and c.from_residual.result c.from_residual.ensures.1 in
    rw (p.1, p.2) (loop_fault due instant c.args.dates.now c.loop-date.date-index c.date-item.result c.date-item.result c.args.into.now.items c.loop-date.into.items _
    c.loop-date-test.true c.date-item.is c.loop-date.invariant _ c.in_err-add_at_line.ensures.cause)

pub loop-date-preserved : goal.loop-date-preserved
loop-date-preserved g c =
    let due : ℤ → Due = line_due c.args.style.now.form (g.Z.ReplyZone.view c.args.zone.now) c.args.style.now.name.now in
    loop_more due instant c.args.dates.now c.loop-date.date-index c.date-item.result c.date-item.result c.args.into.now.items c.loop-date.into.items
    c.add_at_line.new.into.items _ c.loop-date-test.true c.date-item.is c.loop-date.invariant c.in_ok-add_at_line.ensures.ok

pub returns-clause-ok : goal.returns-clause-ok
returns-clause-ok g c =
    let due : ℤ → Due = line_due c.args.style.now.form (g.Z.ReplyZone.view c.args.zone.now) c.args.style.now.name.now in
    loop_end due instant c.args.dates.now c.loop-date.date-index c.args.into.now.items c.loop-date.into.items _
    c.loop-date-test.false c.loop-date.invariant
