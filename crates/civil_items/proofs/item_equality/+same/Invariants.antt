use Rattle.std.proofs.Common.{◌≡◌, length, drop}
use Rattle.civil_items.specs.{ItemTrees.{plain_trees}, Trees.{all_same}}
use Rattle.civil_items.proofs.item_equality.+same.Given as goal

abbrev pub invariant-are_all_same-loop-i : goal.invariant-are_all_same-loop-i
invariant-are_all_same-loop-i l = record {
  lengths : length l.ones ≡ length l.others;
  left : all_same (plain_trees (drop l.i l.ones)) (plain_trees (drop l.i l.others)) ≡ all_same (plain_trees l.ones) (plain_trees l.others);
}
