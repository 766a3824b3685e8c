use Rattle.std.proofs.Common.{◌-◌, ◌≤◌, length, take}
use Rattle.zone_outside.specs.Exchanges.{Wrote}
use Rattle.zone_outside.proofs.exchange.send_all.Given as goal

abbrev pub invariant-sending : goal.invariant-sending
invariant-sending g l = let seen = g.E.Exchange.seen in record {
  within : l.at ≤ length l.bytes;
  wrote : Wrote (seen l.fn.exchange) (seen l.exchange) (take l.at l.bytes);
  faults : (seen l.fn.exchange).write_faults ≤ (seen l.exchange).write_faults;
}

abbrev pub decreases-sending : goal.decreases-sending
decreases-sending g l = length l.bytes - l.at
