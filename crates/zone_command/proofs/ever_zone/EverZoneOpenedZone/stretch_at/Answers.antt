use Rattle.tz_ever.specs.{Recurrences.{zone_total}, ZoneShown.{recurrence_of, zone_set_of}}
use Rattle.zone_answers.specs.SameDayLaws.{in_seconds}
use Rattle.zone_command.proofs.ever_zone.EverZoneOpenedZone.stretch_at.Goals as goal

pub zone_stretch-requires-clause-early : goal.zone_stretch-requires-clause-early
zone_stretch-requires-clause-early c = λ always. let goes = c.args.self.now.goes in absurd cc

pub returns-clause-throughout : goal.returns-clause-throughout
returns-clause-throughout c =
    let zone = c.args.self.now.set in
    in_seconds (zone_total (recurrence_of zone) (zone_set_of zone)) c.zone_stretch.result
    (c.zone_holds_in_seconds.ensures (recurrence_of zone) (zone_set_of zone)) c.zone_stretch.ensures.is.throughout
