use Rattle.std.proofs.Common.{◌≡◌, drop, map}
use Rattle.civil_base.specs.DateTimes.{instant}
use Rattle.zone_texts.specs.{Faults.{behind}, Readings.{after_each}}
use Rattle.zone_texts.proofs.readings.add_after.Given as goal

abbrev pub invariant-loop-date : goal.invariant-loop-date
invariant-loop-date g l =
    let left = after_each l.style.form (g.Z.ReplyZone.view l.zone) l.style.name.now l.kind l.separator in
    behind l.into.items (left (map instant (drop l.date-index l.dates))) ≡ behind l.fn.into.items (left (map instant l.dates))
