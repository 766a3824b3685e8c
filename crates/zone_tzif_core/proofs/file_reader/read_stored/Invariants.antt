use Rattle.zone_tzif_core.{specs.Stored.{stored_kind, AreStored}, proofs.LoopLemmas.{KindsSoFar}}
use Rattle.zone_tzif_core.proofs.file_reader.read_stored.Given as goal

abbrev pub invariant-loop-i : goal.invariant-loop-i
invariant-loop-i l = record {
  so_far : KindsSoFar (stored_kind l.names) l.names l.count l.records l.i l.kinds.items;
  kept : AreStored l.names l.kinds.items;
}
