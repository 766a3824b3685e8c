use Rattle.std.{proofs.Common.{◌≤ℤ◌, int_le, take, IsTrue}, specs.List.{list_all}}
use Rattle.zone_spans.proofs.kept.latest_of.Given as goal

abbrev pub invariant-loop-firing : goal.invariant-loop-firing
invariant-loop-firing l = record {
  firings : IsTrue (list_all (λ f. int_le f.time l.latest) (take l.firing-index l.fired));
  second : l.second ≤ℤ l.latest;
}
