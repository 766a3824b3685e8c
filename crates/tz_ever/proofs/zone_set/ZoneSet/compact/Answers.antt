use Rattle.tz_ever.proofs.zone_set.ZoneSet.compact.Goals as goal

pub returns-clause-accepted : goal.returns-clause-accepted
returns-clause-accepted c = c.args.self.now.set.accepted
