use Rattle.std.{proofs.Common.{◌≡◌, take, map as each}, specs.List.{flat_map}, specs.Map.Iter.{deref}}
use Rattle.zone_table.specs.{NameTree.{children_in}, Placed.{placed_value}}
use Rattle.zone_table.proofs.structure.place_all.Given as goal

-- the children of the names so far
abbrev pub invariant-loop-name : goal.invariant-loop-name
invariant-loop-name l = each placed_value l.placed.items ≡ flat_map children_in (each deref (take l.name-index l.names))
