use Rattle.std.proofs.Common.{◌≡◌, ◌++◌, drop, filter_map}
use Rattle.zone_uses.proofs.alarm.instants_of.Given as goal

abbrev pub invariant-loop-ring : goal.invariant-loop-ring
invariant-loop-ring l =
    l.found.items ++ filter_map (λ ring. ring.at) (drop l.ring-index l.fn.rings) ≡ filter_map (λ ring. ring.at) l.fn.rings
