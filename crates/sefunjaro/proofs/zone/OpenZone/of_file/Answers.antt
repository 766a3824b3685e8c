use Rattle.zone_tzif_core.specs.ZoneFiles.{zone_seen}
use Rattle.sefunjaro.proofs.zone.OpenZone.of_file.Goals as goal

pub of_value-requires : goal.of_value-requires
of_value-requires c =
    let says = c.in-Ok.ensures.exact in
    (c.said_bounds.ensures.rising c.args.bytes.now (zone_seen c.in-Ok.zone) says, c.said_bounds.ensures.small c.args.bytes.now (zone_seen c.in-Ok.zone) says)
