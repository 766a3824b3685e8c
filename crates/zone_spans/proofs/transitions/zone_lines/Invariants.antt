use Rattle.std.{proofs.Common.{◌≡◌, ◌++◌, drop, IsTrue}, specs.FinMap.{get}, specs.List.{list_all, list_any}}
use Rattle.zone_spans.specs.{Bounds.{is_bounded_line}, Faults.{is_unknown}, Lines.{zone_lines}}
use Rattle.zone_spans.proofs.transitions.zone_lines.Given as goal

abbrev pub invariant-loop-i : goal.invariant-loop-i
invariant-loop-i l = record {
  lines : l.lines ++ zone_lines (get l.table.rulesets) (drop l.i l.infos) ≡ zone_lines (get l.table.rulesets) l.infos;
  known : list_any (is_unknown (get l.table.rulesets)) (drop l.i l.infos) ≡ list_any (is_unknown (get l.table.rulesets)) l.infos;
  bounded : IsTrue (list_all is_bounded_line l.lines);
}
