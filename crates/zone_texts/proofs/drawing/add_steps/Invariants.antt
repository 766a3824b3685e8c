use Rattle.std.{proofs.Common.{◌≡◌, ◌++◌, take}, specs.{List.{flat_map}, Prelude.{codes}}}
use Rattle.zone_texts.specs.Charts.{point_text}
use Rattle.zone_texts.proofs.drawing.add_steps.Given as goal

abbrev pub invariant-loop-change : goal.invariant-loop-change
invariant-loop-change g l = l.into.items ≡ l.fn.into.items ++ flat_map (point_text (codes "H") (codes "V") l.year (g.Z.ReplyZone.view l.zone)) (take l.change-index l.changes)
