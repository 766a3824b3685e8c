use Rattle.std.proofs.Common.{◌≡◌, ◌++◌, map, take}
use Rattle.zone_spans.specs.Entries.{entry_of}
use Rattle.zone_spans.proofs.entries.push_all.Given as goal

abbrev pub invariant-loop-firing : goal.invariant-loop-firing
invariant-loop-firing l = l.entries ≡ l.fn.entries ++ map (entry_of l.line) (take l.firing-index l.fired)
