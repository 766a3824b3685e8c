use Rattle.tz_lookup.specs.CompactZones.{compact_of}
use Rattle.tz_ever.proofs.AnswerLemmas.{all_turned}
use Rattle.tz_ever.proofs.zone_tz.ZoneTzAllInstants.begin.Goals as goal

pub returns : goal.returns
returns c =
    let zone = c.args.self.now in
    all_turned zone.recurrence (compact_of zone.zone) c.args.local.now _ _ zone.repeats c.local_turned.ensures c.begin.ensures
