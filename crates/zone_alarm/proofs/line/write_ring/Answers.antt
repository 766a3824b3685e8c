use Rattle.std.proofs.Common.{rules}
use Rattle.tz_lookup.specs.InForce.{shown_of}
use Rattle.zone_alarm.proofs.line.write_ring.Goals as goal

pub returns-in-Some : goal.returns-in-Some
unfolding shown_of
returns-in-Some c = rw (c.in-Some.is) (search rules)
