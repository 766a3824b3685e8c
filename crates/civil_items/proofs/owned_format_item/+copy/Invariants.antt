use Rattle.std.proofs.Common.{◌≡◌, map, take}
use Rattle.civil_items.specs.ItemTrees.{tree_of, borrowed_tree}
use Rattle.civil_items.proofs.owned_format_item.+copy.Given as goal

abbrev pub invariant-copies_of-loop-item : goal.invariant-copies_of-loop-item
invariant-copies_of-loop-item l = map tree_of l.copies.items ≡ map borrowed_tree (take l.item-index l.items)
