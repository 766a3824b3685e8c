use Rattle.std.proofs.Common.{◌≡◌, drop, map}
use Rattle.zone_texts.specs.{Faults.{behind}, Frames.{each_numbered}, Charts.{drawing_due}, SeenZones.{named}}
use Rattle.zone_texts.proofs.drawing.add_drawings.Given as goal

abbrev pub invariant-loop-number : goal.invariant-loop-number
invariant-loop-number g l =
    let due = drawing_due l.year in
    behind l.into.items (each_numbered due l.number (map (named g.Z.ReplyZone.view) (drop l.number l.zones)))
    ≡ behind l.fn.into.items (each_numbered due 0 (map (named g.Z.ReplyZone.view) l.zones))
