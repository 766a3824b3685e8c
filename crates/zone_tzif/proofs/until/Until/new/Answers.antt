use Rattle.tz_ever.specs.ZoneShown.{zone_set_of}
use Rattle.zone_tzif.proofs.FrontLemmas.{accepted_front}
use Rattle.zone_tzif.proofs.until.Until.new.Goals as goal

pub returns-clause-accepted : goal.returns-clause-accepted
returns-clause-accepted c = accepted_front (zone_set_of c.args.set.now) c.count_until-count.result c.compact.ensures.accepted
