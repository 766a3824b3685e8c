use Rattle.std.{proofs.Common.{◌≡◌, ◌++◌, drop, IsTrue}, specs.List.{list_all}}
use Rattle.zone_spans.specs.{Bounds.{is_bounded_entry, is_start}, Entries.{entries_from_over, raw_entries_over}, KeptFor.{IsKept}, Several.{AreAll}}
use Rattle.zone_spans.proofs.entries.raw_entries.Given as goal

abbrev pub invariant-loop-line : goal.invariant-loop-line
invariant-loop-line l = record {
  entries : l.entries ++ entries_from_over l.most l.start (drop l.line-index l.lines) ≡ raw_entries_over l.most l.lines;
  start : IsTrue (is_start l.start);
  bounded : IsTrue (list_all is_bounded_entry l.entries);
  kept : AreAll IsKept l.expander.kept;
}
