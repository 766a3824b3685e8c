use Rattle.std.proofs.Common.{◌≡◌, drop, map}
use Rattle.civil_base.specs.DateTimes.{instant}
use Rattle.zone_texts.specs.{Faults.{behind, each_due}, Instants.{line_due}}
use Rattle.zone_texts.proofs.lines.add_lines.Given as goal

abbrev pub invariant-loop-date : goal.invariant-loop-date
invariant-loop-date g l =
    let left = each_due (line_due l.style.form (g.Z.ReplyZone.view l.zone) l.style.name.now) in
    behind l.into.items (left (map instant (drop l.date-index l.dates))) ≡ behind l.fn.into.items (left (map instant l.dates))
