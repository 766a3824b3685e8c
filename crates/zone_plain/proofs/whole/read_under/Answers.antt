use Rattle.std.proofs.Common.{◌∙◌, ap, add-one, arith, length}
use Rattle.zone_source.specs.LinesLeft.{lines_left}
use Rattle.zone_plain.proofs.{ReadingLemmas.{told_here, left_open, all_read}, UnderLemmas.{nothing_under, one_under, no_mark}}
use Rattle.zone_plain.proofs.whole.read_under.Goals as goal

pub loop-line-init : goal.loop-line-init
loop-line-init c =
    let lines = ap lines_left c.into_iter-line-iterator.ensures.into_iter_gives ∙ c.new-line-items.ensures.lines in
    rw (lines, c.new-lines.ensures) (nothing_under c.args.source.now c.args.mark.now)

pub overflow_add-number : goal.overflow_add-number
overflow_add-number c = omega (arith, c.new-line-items.ensures.few, c.loop-line.invariant.number, ap length c.in-Some.ensures.steps)

pub returns-in-Err-clause-err : goal.returns-in-Err-clause-err
returns-in-Err-clause-err c =
    let so_far = rw c.in-Some.ensures.steps at c.loop-line.invariant in
    rw c.fault_at.ensures (λ same. told_here _ _ _ _ _ _ _ _ (so_far.read same) c.in-Err.ensures.err)

pub loop-line-preserved : goal.loop-line-preserved
loop-line-preserved c =
    rw add-one (one_under _ _ _ _ _ _ _ _ _ _ _ (rw c.in-Some.ensures.steps at c.loop-line.invariant) c.in-Ok-read_line.ensures.ok)

pub returns-then-is_open-clause-err : goal.returns-then-is_open-clause-err
returns-then-is_open-clause-err c =
    let so_far = rw c.in-None.ensures.steps.0 at c.loop-line.invariant in
    λ same. left_open _ _ _ _ _ (so_far.read same) c.if-is_open.true

pub returns-clause-ok : goal.returns-clause-ok
returns-clause-ok c =
    let so_far = rw c.in-None.ensures.steps.0 at c.loop-line.invariant in
    λ same. all_read _ _ _ _ _ (so_far.read same) c.if-is_open.false

pub returns-clause-mark : goal.returns-clause-mark
returns-clause-mark c = no_mark _ _ _ _ _ _ (rw c.in-None.ensures.steps.0 at c.loop-line.invariant) c.if-is_open.false
