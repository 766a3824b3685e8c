-- Which trees are the same, and what is inside items and errors, over all kinds of them.
use Rattle.std.proofs.Common.{◌≡◌, ℕ, refl, cond, nat_eq, List, [], ◌∷◌, ◌++◌, map, true, false, codes, Result, Ok, Err}
use denote.Bor.{Bor}
use Rattle.std.specs.Global.{Vec}
use Rattle.civil_parts.specs.declared.error.{ConversionRange.{ConversionRange as RangeOfConversion}, ComponentRange.{ComponentRange as RangeOfComponent}, InvalidVariant.{InvalidVariant as NoVariant}}
use Rattle.civil_items.specs.declared.format_item.Component.{Component, TheVariants.{Year, Month, Day, Hour, Minute, Second, Subsecond, OffsetHour, OffsetMinute, OffsetSecond}}
use Rattle.civil_items.specs.{declared.owned_format_item.OwnedFormatItem.TheOpen.{OwnedFormatItem-F}, declared.format_item.BorrowedFormatItem.TheOpen.{BorrowedFormatItem-F}, ItemTrees.{owned_level, borrowed_level}}
use Rattle.civil_items.specs.{Trees.{Tree, Trees, literal, text, component, compound, optional, first, no_trees, tree, trees_of, component_place, component_in, compound_in, plain, same}, declared.error.{IndeterminateOffset.{IndeterminateOffset as UnknownOffset}, DifferentVariant.{DifferentVariant as OtherVariant}, Error.{Error}}}
use Rattle.civil_items.specs.declared.error.Error.TheVariants.{ConversionRange, ComponentRange, IndeterminateOffset, DifferentVariant, InvalidVariant}
use Rattle.civil_items.specs.Errors.{conversion_range_in, component_range_in, indeterminate_offset_in, different_variant_in, invalid_variant_in}

worked_components : map component_place
    (Year ∷ Month ∷ Day ∷ Hour ∷ Minute ∷ Second ∷ Subsecond ∷ OffsetHour ∷ OffsetMinute ∷ OffsetSecond ∷ [])
    ≡ 0 ∷ 1 ∷ 2 ∷ 3 ∷ 4 ∷ 5 ∷ 6 ∷ 7 ∷ 8 ∷ 9 ∷ []
worked_components = refl

-- a literal and a text of the same bytes, in a list
abbrev mixed : Trees
mixed = tree (literal (codes "a")) (tree (text (codes "b")) no_trees)

-- the same list with literals alone
abbrev literals : Trees
literals = tree (literal (codes "a")) (tree (literal (codes "b")) no_trees)

-- one tree of each kind
abbrev kinds : List Tree
kinds = literal (codes "a") ∷ text (codes "a") ∷ component Year ∷ compound mixed ∷ optional (text (codes "a")) ∷ first mixed ∷ []

-- in plain trees each text is a literal, at every depth
worked_plain : map plain kinds
    ≡ literal (codes "a") ∷ literal (codes "a") ∷ component Year ∷ compound literals ∷ optional (literal (codes "a")) ∷ first literals ∷ []
worked_plain = refl

-- so two that differ by the kinds of their literals alone are one in plain trees
worked_mixed : same (first mixed) (first literals) ∷ same (plain (first mixed)) (plain (first literals))
    ∷ same (plain (compound mixed)) (plain (compound literals)) ∷ same (plain (first mixed)) (plain (compound literals)) ∷ []
    ≡ false ∷ true ∷ true ∷ false ∷ []
worked_mixed = refl

-- no two kinds are the same
worked_same : map (λ one. map (same one) kinds) kinds
    ≡ (true ∷ false ∷ false ∷ false ∷ false ∷ false ∷ [])
    ∷ (false ∷ true ∷ false ∷ false ∷ false ∷ false ∷ [])
    ∷ (false ∷ false ∷ true ∷ false ∷ false ∷ false ∷ [])
    ∷ (false ∷ false ∷ false ∷ true ∷ false ∷ false ∷ [])
    ∷ (false ∷ false ∷ false ∷ false ∷ true ∷ false ∷ [])
    ∷ (false ∷ false ∷ false ∷ false ∷ false ∷ true ∷ []) ∷ []
worked_same = refl

-- a front of a list is not the list, and other bytes, components and items are not the same
worked_lists : map (same (compound (tree (component Year) (tree (component Day) no_trees))))
    (compound (tree (component Year) no_trees) ∷ compound (tree (component Year) (tree (component Month) no_trees))
    ∷ compound (tree (component Year) (tree (component Day) (tree (component Day) no_trees))) ∷ compound no_trees ∷ [])
    ≡ false ∷ false ∷ false ∷ false ∷ []
worked_lists = refl

worked_bytes : same (literal (codes "a")) (literal (codes "ab")) ∷ same (text (codes "a")) (text (codes "b"))
    ∷ same (first literals) (first no_trees) ∷ same (optional (component Year)) (optional (component Day)) ∷ []
    ≡ false ∷ false ∷ false ∷ false ∷ []
worked_bytes = refl

-- what is inside a tree of each kind
worked_component_in : map component_in kinds
    ≡ Err (record {}) ∷ Err (record {}) ∷ Ok Year ∷ Err (record {}) ∷ Err (record {}) ∷ Err (record {}) ∷ []
worked_component_in = refl

worked_compound_in : map compound_in kinds
    ≡ Err (record {}) ∷ Err (record {}) ∷ Err (record {}) ∷ Ok mixed ∷ Err (record {}) ∷ Err (record {}) ∷ []
worked_compound_in = refl

-- an optional tree and a list of one are not what they hold
abbrev holders : List Tree
holders =
    optional (component Year) ∷ compound (tree (component Year) no_trees) ∷ first (tree (component Year) no_trees)
    ∷ optional (compound mixed) ∷ first (tree (compound mixed) no_trees) ∷ []

worked_held_component : map component_in holders
    ≡ Err (record {}) ∷ Err (record {}) ∷ Err (record {}) ∷ Err (record {}) ∷ Err (record {}) ∷ []
worked_held_component = refl

worked_held_compound : map compound_in holders
    ≡ Err (record {}) ∷ Ok (tree (component Year) no_trees) ∷ Err (record {}) ∷ Err (record {}) ∷ Err (record {}) ∷ []
worked_held_compound = refl

worked_held_same : map (same (component Year)) holders ++ map (same (compound mixed)) holders
    ≡ false ∷ false ∷ false ∷ false ∷ false ∷ false ∷ false ∷ false ∷ false ∷ false ∷ []
worked_held_same = refl

-- an item's variant is that of its tree
worked_items : (part : Component) (item : Tree) (items : Vec Tree)
    → (owned_level (OwnedFormatItem-F.Component part) ≡ component part)
    × (owned_level (OwnedFormatItem-F.Compound items) ≡ compound (trees_of items.items))
    × (owned_level (OwnedFormatItem-F.First items) ≡ first (trees_of items.items))
worked_items part item items = (refl, refl, refl)

worked_borrowed_items : (part : Component) (items : Bor (List Tree))
    → (borrowed_level (BorrowedFormatItem-F.Component part) ≡ component part)
    × (borrowed_level (BorrowedFormatItem-F.Compound items) ≡ compound (trees_of items.now))
    × (borrowed_level (BorrowedFormatItem-F.First items) ≡ first (trees_of items.now))
worked_borrowed_items part items = (refl, refl, refl)

-- one error of each kind
abbrev errors : List Error
errors =
    ConversionRange (record {}) ∷ ComponentRange (record {}) ∷ IndeterminateOffset (record {}) ∷ DifferentVariant (record {}) ∷
    InvalidVariant (record {}) ∷ []

-- the one at that place is taken, and no other
abbrev taken_at : {A : Type 0} → ℕ → A → List (Result A OtherVariant)
taken_at place own = map (λ k. cond (nat_eq k place) (Ok own) (Err (record {}))) (0 ∷ 1 ∷ 2 ∷ 3 ∷ 4 ∷ [])

worked_errors : (map conversion_range_in errors ≡ taken_at {A = RangeOfConversion} 0 (record {}))
    × (map component_range_in errors ≡ taken_at {A = RangeOfComponent} 1 (record {}))
    × (map indeterminate_offset_in errors ≡ taken_at {A = UnknownOffset} 2 (record {}))
    × (map different_variant_in errors ≡ taken_at {A = OtherVariant} 3 (record {}))
    × (map invalid_variant_in errors ≡ taken_at {A = NoVariant} 4 (record {}))
worked_errors = (refl, refl, refl, refl, refl)
