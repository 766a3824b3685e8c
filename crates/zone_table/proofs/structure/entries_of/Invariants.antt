use Rattle.std.{proofs.Common.{◌≡◌, ◌++◌, map as each}, specs.List.Sorted.{IsStrictlySortedBy}, specs.Slice.Iter.{chunk_by_rest}}
use Rattle.zone_table.specs.{NameTree.{tree_of}, Shown.{entry_value}, Placed.{placed_cmp, placed_value}}
use Rattle.zone_table.proofs.structure.entries_of.Given as goal

-- the children that are left are in order, and their entries are those that are missing
abbrev pub invariant-loop-run : goal.invariant-loop-run
invariant-loop-run l = record {
  sorted : IsStrictlySortedBy placed_cmp (each placed_value (chunk_by_rest l.run-iterator));
  missing : each entry_value l.entries.items ++ tree_of (each placed_value (chunk_by_rest l.run-iterator))
      ≡ tree_of (each placed_value l.placed);
}
