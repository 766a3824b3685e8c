use Rattle.tz_ever.proofs.OpenLemmas.{zone_today}
use Rattle.tz_ever.proofs.open.test_today.Goals as goal

pub returns-clause-ok : goal.returns-clause-ok
returns-clause-ok c = zone_today c.args.table.now c.args.name.now c.in-Ok.today c.in-Ok.ensures.ok.1 c.in-Ok.ensures.accepted.range
