use Rattle.std.proofs.Common.{◌≡◌, drop, map}
use Rattle.zone_texts.specs.{Charts.{are_untold}, SeenZones.{named}}
use Rattle.zone_texts.proofs.chart.are_untold.Given as goal

abbrev pub invariant-loop-zone : goal.invariant-loop-zone
invariant-loop-zone g l =
    are_untold l.year (map (named g.Z.ReplyZone.view) (drop l.zone-index l.zones)) ≡ are_untold l.year (map (named g.Z.ReplyZone.view) l.zones)
