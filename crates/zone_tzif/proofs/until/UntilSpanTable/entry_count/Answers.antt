use Rattle.std.proofs.Common.{sym}
use Rattle.tz_ever.specs.ZoneShown.{zone_set_of}
use Rattle.zone_tzif.proofs.FrontLemmas.{front_length}
use Rattle.zone_tzif.proofs.until.UntilSpanTable.entry_count.Goals as goal

pub returns-clause-count : goal.returns-clause-count
returns-clause-count c = sym (front_length (zone_set_of c.args.self.now.set.now).others c.args.self.now.count c.args.self.now.within)

pub returns-clause-bound : goal.returns-clause-bound
returns-clause-bound c = c.args.self.now.bound
