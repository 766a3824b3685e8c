-- Children beside their parts, with their texts as bytes.
use Rattle.std.specs.{Prelude.{ℕ, List}, declared.cmp.Ordering.{Ordering}, Borrow.{Bor}, Ordering.{ordering_then}}
use Rattle.basics.specs.Keyed.{text_cmp}
use Rattle.zone_table.specs.{NameTree.{ChildValue, child_cmp}, Shown.{child_value}, declared.structure.Child.{Child}}

abbrev pub placed_value : Bor (List ℕ) × Child → List ℕ × ChildValue
placed_value placed = (placed.0.now, child_value placed.1)

-- by part, and then by child
abbrev pub placed_cmp : List ℕ × ChildValue → List ℕ × ChildValue → Ordering
placed_cmp a b = ordering_then (text_cmp a.0 b.0) (child_cmp a.1 b.1)
