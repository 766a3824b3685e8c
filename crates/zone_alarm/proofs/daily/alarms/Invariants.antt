use Rattle.std.proofs.Common.{◌≡◌, map}
use Rattle.zone_alarm.specs.{Rings.{rings}, Shown.{ring_shown}}
use Rattle.zone_alarm.proofs.daily.alarms.Given as goal

abbrev pub invariant-loop-past : goal.invariant-loop-past
invariant-loop-past g l = map ring_shown l.found.items ≡ rings (g.T.TimeZone.total_at l.fn.zone) l.fn.at l.fn.first l.past
