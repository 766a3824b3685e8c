use Rattle.std.{proofs.Common.{ℕ, List, ℤ, rules}, specs.Prelude.{codes}}
use Rattle.zone_texts.{specs.Charts.{point_text}, proofs.RangeLemmas.{all_items, second_more}}
use Rattle.zone_texts.proofs.drawing.add_steps.Goals as goal

pub loop-change-preserved : goal.loop-change-preserved
loop-change-preserved g c =
    let text : ℤ → List ℕ = point_text (codes "H") (codes "V") c.args.year (g.Z.ReplyZone.view c.args.zone.now) in
    second_more text c.args.into.now.items c.loop-change.into.items _ c.args.changes.now c.loop-change.change-index c.loop-change-test.true (search rules)
    c.loop-change.invariant c.in_ok-add_point.ensures

pub returns : goal.returns
returns g c =
    let text : ℤ → List ℕ = point_text (codes "H") (codes "V") c.args.year (g.Z.ReplyZone.view c.args.zone.now) in
    all_items text c.args.into.now.items c.loop-change.into.items c.args.changes.now c.loop-change.change-index c.loop-change-test.false
    c.loop-change.invariant
