use Rattle.std.proofs.Common.{◌≡◌, drop, map}
use Rattle.zone_command.specs.{Named.{named_view}, Replies.{behind_found, named_zones}}
use Rattle.zone_command.proofs.charts.charted.Given as goal
use Rattle.zone_texts.specs.SeenZones.{named}
use Rattle.zone_words.specs.Shown.{word_shown}

-- the zones so far, and those of the names left, are those of all names
abbrev pub invariant-loop-name : goal.invariant-loop-name
invariant-loop-name g l =
    let found = g.S.ZoneSource.found l.source in
    behind_found (map (named (named_view g.S.Zone.ReplyZone.view)) l.zones.items) (named_zones found (map word_shown (drop l.name-index l.names)))
    ≡ named_zones found (map word_shown l.names)
