use Rattle.std.proofs.Common.{◌≡◌, ◌++◌, map, filter, take, int_lt}
use Rattle.zone_spans.specs.Entries.{entry_of}
use Rattle.zone_spans.proofs.entries.push_above.Given as goal

abbrev pub invariant-loop-firing : goal.invariant-loop-firing
invariant-loop-firing l = l.entries ≡ l.fn.entries ++ map (entry_of l.line)
    (filter (λ f. int_lt l.start f.time) (take l.firing-index l.fired))
