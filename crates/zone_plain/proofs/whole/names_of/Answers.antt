use Rattle.std.proofs.Common.{◌∙◌, ap}
use Rattle.zone_source.specs.LinesLeft.{lines_left}
use Rattle.zone_plain.proofs.MetLemmas.{nothing_met, one_met, none_met, open_met, all_met}
use Rattle.zone_plain.proofs.whole.names_of.Goals as goal

pub loop-line-init : goal.loop-line-init
loop-line-init c =
    let lines = ap lines_left c.into_iter-line-iterator.ensures.into_iter_gives ∙ c.new-line-items.ensures.lines in
    rw (lines, c.new-names.ensures) (nothing_met c.args.source.now)

pub loop-line-preserved : goal.loop-line-preserved
loop-line-preserved c =
    one_met _ _ _ _ _ _ _ _ (rw c.in-Some.ensures.steps at c.loop-line.invariant) c.in-Ok.ensures c.in_ok-add_name-in-Ok.ensures c.is_open_after-is_open.ensures

pub returns-in-Err-Cause : goal.returns-in-Err-Cause
returns-in-Err-Cause c =
    c.new.ensures
    ∙ none_met _ _ _ _ _ _ (rw c.in-Some.ensures.steps at c.loop-line.invariant) (rw c.in-Err-Cause.field-0-is at c.in-Err-Cause.ensures)

pub returns-then-is_open : goal.returns-then-is_open
returns-then-is_open c = c.new-then-is_open.ensures ∙ open_met _ _ _ (rw c.in-None.ensures.steps.0 at c.loop-line.invariant) c.if-is_open.true

pub returns : goal.returns
returns c = all_met _ _ _ (rw c.in-None.ensures.steps.0 at c.loop-line.invariant) c.if-is_open.false
