use Rattle.std.proofs.{Common.{arith}, lemmas.List.Sums.{common_prefix_len-drop_yes}}
use Rattle.zone_texts.proofs.EditLemmas.{ended}
use Rattle.zone_texts.proofs.edit.same_in_front.Goals as goal

pub loop-index-preserved : goal.loop-index-preserved
loop-index-preserved c = grind (arith, common_prefix_len-drop_yes)

pub returns-clause-count : goal.returns-clause-count
returns-clause-count c =
    let e = ended c.args.a.now c.args.b.now c.loop-index.index (omega (arith, c.min-shorter.ensures, c.loop-index-test.false)) in
    omega (arith, e, c.loop-index.invariant, c.loop-index-test.false, c.loop-index.auto.index-end)
