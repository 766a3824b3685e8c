use Rattle.std.proofs.Common.{◌≡◌, map, take}
use Rattle.zone_alarm.specs.{RingLines.{ring_line}, Shown.{ring_shown}}
use Rattle.zone_alarm.proofs.line.lines_of.Given as goal

abbrev pub invariant-loop-ring : goal.invariant-loop-ring
invariant-loop-ring l = l.lines ≡ map ring_line (map ring_shown (take l.ring-index l.fn.rings))
