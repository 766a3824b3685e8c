use Rattle.std.proofs.Common.{◌≡◌, drop, map}
use Rattle.zone_texts.specs.{Faults.{behind, each_due}, Lists.{change_due}}
use Rattle.zone_texts.proofs.changes.add_lines.Given as goal

abbrev pub invariant-loop-change : goal.invariant-loop-change
invariant-loop-change g l =
    let due = each_due (change_due l.style.form (g.Z.ReplyZone.view l.zone) l.style.name.now) in
    behind l.into.items (due (map (λ s. s) (drop l.change-index l.changes))) ≡ behind l.fn.into.items (due l.changes)
