use Rattle.std.proofs.Common.{◌≤◌, take}
use Rattle.zone_spans.specs.Quiet.{AppliesToNone}
use Rattle.zone_spans.proofs.fault.years_before_all.Given as goal

abbrev pub invariant-loop-rule : goal.invariant-loop-rule
invariant-loop-rule l = record {
  before : AppliesToNone (take l.rule-index l.rules) l.count;
  most : l.count ≤ l.most;
}
