use Rattle.std.proofs.lemmas.Result.{err_from_is_err_and}
use Rattle.zone_texts.{specs.{Charts.{drawing_due}, SeenZones.{named}}, proofs.DueLemmas.{loop_end, loop_fault, loop_more}}
use Rattle.zone_texts.proofs.drawing.add_drawings.Goals as goal

pub returns-in_err-add_drawing-clause-err : goal.returns-in_err-add_drawing-clause-err
returns-in_err-add_drawing-clause-err g c =
    let due = drawing_due c.args.year in
    let one = c.index-zones-number in
    let p = err_from_is_err_and c.from_residual.result c.from_residual.ensures.1 in
    rw (p.1, p.2) (loop_fault due (named g.Z.ReplyZone.view) c.args.zones.now c.loop-number.number one.result one.result c.args.into.now.items
    c.loop-number.into.items _ c.loop-number-test.true one.is c.loop-number.invariant _ c.in_err-add_drawing.ensures.err)

pub loop-number-preserved : goal.loop-number-preserved
loop-number-preserved g c =
    let due = drawing_due c.args.year in
    let one = c.index-zones-number in
    loop_more due (named g.Z.ReplyZone.view) c.args.zones.now c.loop-number.number one.result one.result c.loop-number.into.items
    c.add_drawing.new.into.items _ c.loop-number-test.true one.is c.loop-number.invariant c.in_ok-add_drawing.ensures.ok

pub returns-clause-ok : goal.returns-clause-ok
returns-clause-ok g c =
    let due = drawing_due c.args.year in
    loop_end due (named g.Z.ReplyZone.view) c.args.zones.now c.loop-number.number c.loop-number.into.items _ c.loop-number-test.false c.loop-number.invariant
