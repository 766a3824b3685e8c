-- What trees format items are.
use Rattle.std.specs.{Prelude.{List, map, string_bytes, Result, Ok, Err}, Global.{Vec}}
use Rattle.civil_items.specs.declared.{error.DifferentVariant.{DifferentVariant}, owned_format_item.OwnedFormatItem.{OwnedFormatItem, fold-OwnedFormatItem}, owned_format_item.OwnedFormatItem.TheOpen.{OwnedFormatItem-F}}
use Rattle.civil_items.specs.declared.format_item.BorrowedFormatItem.{BorrowedFormatItem, fold-BorrowedFormatItem, TheOpen.{BorrowedFormatItem-F}}
use Rattle.civil_items.specs.Trees.{Tree, Trees, literal, text, component, compound, optional, first, trees_of, plain, all_plain}

-- one level of an item, whose items are trees already
abbrev pub owned_level : OwnedFormatItem-F Tree → Tree
owned_level (OwnedFormatItem-F.Literal bytes) = literal bytes.items
owned_level (OwnedFormatItem-F.StringLiteral string) = text (string_bytes string)
owned_level (OwnedFormatItem-F.Component part) = component part
owned_level (OwnedFormatItem-F.Compound items) = compound (trees_of items.items)
owned_level (OwnedFormatItem-F.Optional item) = optional item.value
owned_level (OwnedFormatItem-F.First items) = first (trees_of items.items)

abbrev pub tree_of : OwnedFormatItem → Tree
tree_of = fold-OwnedFormatItem Tree owned_level

abbrev pub trees_in : List OwnedFormatItem → Trees
trees_in items = trees_of (map tree_of items)

-- items that a call answers, as their trees
abbrev pub told_items : Result (Vec OwnedFormatItem) DifferentVariant → Result Trees DifferentVariant
told_items (Ok items) = Ok (trees_in items.items)
told_items (Err refusal) = Err refusal

-- the same of a borrowed item
abbrev pub borrowed_level : BorrowedFormatItem-F Tree → Tree
borrowed_level (BorrowedFormatItem-F.Literal bytes) = literal bytes.now
borrowed_level (BorrowedFormatItem-F.StringLiteral string) = text string.now
borrowed_level (BorrowedFormatItem-F.Component part) = component part
borrowed_level (BorrowedFormatItem-F.Compound items) = compound (trees_of items.now)
borrowed_level (BorrowedFormatItem-F.Optional item) = optional item.now
borrowed_level (BorrowedFormatItem-F.First items) = first (trees_of items.now)

abbrev pub borrowed_tree : BorrowedFormatItem → Tree
borrowed_tree = fold-BorrowedFormatItem Tree borrowed_level

abbrev pub borrowed_trees : List BorrowedFormatItem → Trees
borrowed_trees items = trees_of (map borrowed_tree items)

-- the plain tree of an item
abbrev pub plain_of : OwnedFormatItem → Tree
plain_of item = plain (tree_of item)

abbrev pub plain_trees : List OwnedFormatItem → Trees
plain_trees items = all_plain (trees_in items)
