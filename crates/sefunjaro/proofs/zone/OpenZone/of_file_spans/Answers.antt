use Rattle.std.proofs.Common.{[]}
use Rattle.zone_tzif_core.specs.ZoneFiles.{zone_seen}
use Rattle.sefunjaro.proofs.FileLemmas.{shows_file}
use Rattle.sefunjaro.proofs.zone.OpenZone.of_file_spans.Goals as goal

pub returns-in-Ok : goal.returns-in-Ok
returns-in-Ok c =
    let made = c.in-Ok.ensures in let value = zone_seen c.args.zone.now in let spans = c.args.spans.now in
    shows_file value spans c.in-Ok.zone c.requires (c.opened_shows.ensures.total [] value spans c.requires) (c.opened_shows.ensures.reads [] value spans c.requires)
    made.set made.recurs made.origin
