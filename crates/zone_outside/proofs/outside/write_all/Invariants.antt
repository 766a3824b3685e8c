use Rattle.std.proofs.Common.{◌≡◌, ◌-◌, ◌≤◌, ◌++◌, length, take, Some, IfSome}
use Rattle.zone_outside.proofs.outside.write_all.Given as goal

abbrev pub invariant-writing : goal.invariant-writing
invariant-writing g l = let O = g.O.Sink in record {
  within : l.at ≤ length l.bytes;
  taken : IfSome (O.taken l.fn.sink) (λ had. O.taken l.sink ≡ Some (had ++ take l.at l.bytes));
  faults : O.faults l.fn.sink ≤ O.faults l.sink;
}

abbrev pub decreases-writing : goal.decreases-writing
decreases-writing g l = length l.bytes - l.at
