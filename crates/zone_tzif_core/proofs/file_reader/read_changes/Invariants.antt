use Rattle.std.proofs.Common.{◌≡◌, List, length}
use Rattle.zone_tzif_core.{specs.Stored.{AreNumbered}, specs.Zones.{KindValue}, proofs.LoopLemmas.{ShiftsSoFar}}
use Rattle.zone_tzif_core.proofs.file_reader.read_changes.Given as goal

abbrev pub invariant-loop-i : goal.invariant-loop-i
invariant-loop-i l = record {
  so_far : (kinds : List KindValue) → length kinds ≡ l.count → ShiftsSoFar l.wide kinds l.times l.numbers l.i l.changes.items;
  numbered : AreNumbered l.count l.changes.items;
}
