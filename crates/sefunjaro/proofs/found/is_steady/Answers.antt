use Rattle.tz_ever.specs.ZoneShown.{recurrence_of, zone_in_range, zone_set_of}
use Rattle.sefunjaro.specs.{GapPlaces.{HoldsSeconds}}
use Rattle.sefunjaro.proofs.found.is_steady.Goals as goal

pub returns : goal.returns
unfolding HoldsSeconds
returns c =
    let zone = c.args.zone.now.zone in
    record { seconds = c.zone_holds_in_seconds.ensures (recurrence_of zone) (zone_set_of zone); range = zone_in_range zone }
