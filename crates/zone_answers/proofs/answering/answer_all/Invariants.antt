use Rattle.std.{proofs.Common.{◌≡◌, ◌+◌, ◌++◌, length, map}, specs.List.{flat_map}, specs.Prelude.{All}}
use Rattle.zone_source.specs.{Lines.{lines_of}, LinesLeft.{lines_left}}
use Rattle.zone_answers.specs.{Due.{answer_line, shown_for}, Faults.{first_refused}, Found.{found_in_table}, Opened.{table_of, AreOpened}, ReadBack.{IsReadBack}}
use Rattle.zone_answers.proofs.answering.answer_all.Given as goal

abbrev pub invariant-loop-line : goal.invariant-loop-line
invariant-loop-line g l = record {
  table : table_of l.zones ≡ l.table;
  opened : AreOpened g.Z.OpenedZone l.zones;
  number : l.number + length (lines_left l.line-iterator) ≡ 1 + length (lines_of l.requests);
  refused : first_refused (found_in_table g.Z.OpenedZone.read l.table) l.number (lines_left l.line-iterator)
      ≡ first_refused (found_in_table g.Z.OpenedZone.read l.table) 1 (lines_of l.requests);
  lines : l.answers ++ map (answer_line (found_in_table g.Z.OpenedZone.read l.table)) (lines_left l.line-iterator)
      ≡ map (answer_line (found_in_table g.Z.OpenedZone.read l.table)) (lines_of l.requests);
  read_back : All IsReadBack (flat_map (shown_for (found_in_table g.Z.OpenedZone.read l.table)) (lines_left l.line-iterator))
      → All IsReadBack (flat_map (shown_for (found_in_table g.Z.OpenedZone.read l.table)) (lines_of l.requests));
}
