use Rattle.std.proofs.Common.{◌≡◌, ◌≤◌, ◌-◌, drop}
use Rattle.zone_spans.specs.GoesOn.{dont_fall}
use Rattle.zone_spans.proofs.turns.dont_fall.Given as goal

abbrev pub invariant-loop-i : goal.invariant-loop-i
invariant-loop-i l = record {
  begun : 1 ≤ l.i;
  rest : dont_fall (drop (l.i - 1) l.entries) ≡ dont_fall l.entries;
}
