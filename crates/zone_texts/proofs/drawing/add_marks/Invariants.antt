use Rattle.std.proofs.Common.{◌≡◌, drop, map}
use Rattle.zone_texts.specs.{Faults.{behind, each_due}, Frames.{each_numbered}, Charts.{mark_due}}
use Rattle.zone_texts.proofs.drawing.add_marks.Given as goal

abbrev pub invariant-loop-change : goal.invariant-loop-change
invariant-loop-change g l =
    let due = mark_due l.year (g.Z.ReplyZone.view l.zone) in
    behind l.into.items (each_numbered (λ _. due) l.change-index (map (λ s. s) (drop l.change-index l.changes))) ≡ behind l.fn.into.items (each_due due l.changes)
