use Rattle.tz_lookup.specs.{CompactShown.{seen}, Sets.{schedule_of}}
use Rattle.zone_answers.proofs.SameDayLemmas.{throughout}
use Rattle.zone_answers.proofs.to_2099.CompactSetOpenedZone.stretch_at.Goals as goal

pub returns-clause-throughout : goal.returns-clause-throughout
returns-clause-throughout c = throughout (schedule_of (seen c.args.self.now)) c.stretch_of.result c.stretch_of.ensures.is.throughout
