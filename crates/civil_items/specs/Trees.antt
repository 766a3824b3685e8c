-- The trees of format items.
use Rattle.std.specs.Prelude.{ℕ, Bool, true, false, ◌&&◌, List, [], ◌∷◌, bytes_eq, nat_eq, Result, Ok, Err}
use denote.Enum.Declared.{tag_of as place_among}
use Rattle.civil_items.specs.{contracts.format_item.Component.{the_type as components}, declared.error.DifferentVariant.{DifferentVariant}, declared.format_item.Component.{Component}}

mutual
  pub data Tree : Type 0 where
    literal : List ℕ → Tree
    text : List ℕ → Tree
    component : Component → Tree
    compound : Trees → Tree
    optional : Tree → Tree
    first : Trees → Tree

  pub data Trees : Type 0 where
    no_trees : Trees
    tree : Tree → Trees → Trees

abbrev pub trees_of : List Tree → Trees
trees_of [] = no_trees
trees_of (t ∷ ts) = tree t (trees_of ts)

-- the plain tree: a text is the literal of its bytes, at every depth
abbrev mutual
  pub plain : Tree → Tree
  plain (literal bytes) = literal bytes
  plain (text bytes) = literal bytes
  plain (component part) = component part
  plain (compound items) = compound (all_plain items)
  plain (optional item) = optional (plain item)
  plain (first items) = first (all_plain items)

  pub all_plain : Trees → Trees
  all_plain no_trees = no_trees
  all_plain (tree t ts) = tree (plain t) (all_plain ts)

-- the place of a component among the variants, from 0
abbrev pub component_place : Component → ℕ
component_place part = place_among components part

-- whether two trees are the same
abbrev mutual
  pub same : Tree → Tree → Bool
  same (literal a) (literal b) = bytes_eq a b
  same (text a) (text b) = bytes_eq a b
  same (component a) (component b) = nat_eq (component_place a) (component_place b)
  same (compound a) (compound b) = all_same a b
  same (optional a) (optional b) = same a b
  same (first a) (first b) = all_same a b
  same _ _ = false

  pub all_same : Trees → Trees → Bool
  all_same no_trees no_trees = true
  all_same (tree a more) (tree b rest) = same a b && all_same more rest
  all_same _ _ = false

-- what is inside a tree of the variant asked for
abbrev pub component_in : Tree → Result Component DifferentVariant
component_in (component part) = Ok part
component_in _ = Err (record {})

abbrev pub compound_in : Tree → Result Trees DifferentVariant
compound_in (compound items) = Ok items
compound_in _ = Err (record {})
