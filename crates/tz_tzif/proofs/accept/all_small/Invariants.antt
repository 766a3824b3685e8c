use Rattle.std.{proofs.Common.{◌≡◌, drop}, specs.List.{list_all}}
use Rattle.zone_tzif_core.specs.{ZoneFiles.{zone_seen}, Zones.{is_small}}
use Rattle.tz_tzif.proofs.accept.all_small.Given as goal

abbrev pub invariant-loop-place : goal.invariant-loop-place
invariant-loop-place l =
    list_all (λ change. is_small change.1.utoff) (drop l.place (zone_seen l.zone).rest)
    ≡ list_all (λ change. is_small change.1.utoff) (zone_seen l.zone).rest
