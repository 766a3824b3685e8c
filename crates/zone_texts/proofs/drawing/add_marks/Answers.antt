use Rattle.std.proofs.{Common.{ℤ, pos, slice_index_or, to_z, of_z, to_z-of_z, FitsSigned, w64, rules, ap, map, map-id, ◌∙◌}, lemmas.Result.{err_from_is_err_and}}
use Rattle.zone_texts.{specs.{Faults.{Due, behind, each_due}, Charts.{mark_due}}, proofs.DueLemmas.{any_number, loop_end, loop_fault, loop_more}}
use Rattle.zone_texts.proofs.drawing.add_marks.Goals as goal

pub loop-change-init : goal.loop-change-init
loop-change-init g c =
    let due : ℤ → Due = mark_due c.args.year (g.Z.ReplyZone.view c.args.zone.now) in
    ap (behind c.args.into.now.items) (any_number due 0 (map (λ s. s) c.args.changes.now) ∙ ap (each_due due) (map-id c.args.changes.now))

pub returns-in_err-add_mark-clause-err : goal.returns-in_err-add_mark-clause-err
returns-in_err-add_mark-clause-err g c =
    let due : ℤ → Due = mark_due c.args.year (g.Z.ReplyZone.view c.args.zone.now) in
    let e = slice_index_or c.args.changes.now c.loop-change.change-index (pos 0) in
    let fits : FitsSigned w64 e = search rules in
    let p = err_from_is_err_and c.from_residual.result c.from_residual.ensures.1 in
    rw (p.1, p.2) (loop_fault (λ _. due) (λ s. s) c.args.changes.now c.loop-change.change-index (pos 0) (to_z w64 (of_z w64 e)) c.args.into.now.items
    c.loop-change.into.items _ c.loop-change-test.true (to_z-of_z fits) c.loop-change.invariant _ c.in_err-add_mark.ensures.err)

pub loop-change-preserved : goal.loop-change-preserved
loop-change-preserved g c =
    let due : ℤ → Due = mark_due c.args.year (g.Z.ReplyZone.view c.args.zone.now) in
    let e = slice_index_or c.args.changes.now c.loop-change.change-index (pos 0) in
    let fits : FitsSigned w64 e = search rules in
    loop_more (λ _. due) (λ s. s) c.args.changes.now c.loop-change.change-index (pos 0) (to_z w64 (of_z w64 e)) c.loop-change.into.items
    c.add_mark.new.into.items _ c.loop-change-test.true (to_z-of_z fits) c.loop-change.invariant c.in_ok-add_mark.ensures.ok

pub returns-clause-ok : goal.returns-clause-ok
returns-clause-ok g c =
    let due : ℤ → Due = mark_due c.args.year (g.Z.ReplyZone.view c.args.zone.now) in
    loop_end (λ _. due) (λ s. s) c.args.changes.now c.loop-change.change-index c.loop-change.into.items _ c.loop-change-test.false c.loop-change.invariant
