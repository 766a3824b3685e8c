use Rattle.std.{proofs.Common.{◌≡◌, drop}, specs.List.{list_any}}
use Rattle.zone_spans.specs.{Faults.{leaves_year_over}, Several.{AreAll}, TestedFor.{IsTested}}
use Rattle.zone_spans.proofs.fault.some_leaves_year.Given as goal

abbrev pub invariant-loop-line : goal.invariant-loop-line
invariant-loop-line l = record {
  behind : list_any (leaves_year_over l.most) (drop l.line-index l.lines) ≡ list_any (leaves_year_over l.most) l.lines;
  tested : AreAll IsTested l.tested;
}
