-- The hierarchy of names: what stands under each part of a name.
use Rattle.std.specs.{Prelude.{ℕ, List, [], ◌∷◌, Option, Some, None, map, if◌then◌else◌}, Option.{option_to_list}, declared.cmp.Ordering.{Ordering}, declared.cmp.Ordering.TheVariants.{Less, Greater}}
use Rattle.std.specs.{List.{filter, flat_map, list_any, before_first, after_first, before_last, after_last}, Str.{bytes_eq}}
use Rattle.basics.specs.{InOrder.{in_order}, Keyed.{text_cmp}}
use Rattle.zone_table.specs.Formats.{is_slash}

-- what stands under a part
pub data ChildValue : Type 0 where
  submodule : List ℕ → ChildValue
  time_zone : List ℕ → ChildValue

-- submodules first, each kind in byte order
abbrev pub child_cmp : ChildValue → ChildValue → Ordering
child_cmp (submodule a) (submodule b) = text_cmp a b
child_cmp (submodule a) (time_zone b) = Less
child_cmp (time_zone a) (submodule b) = Greater
child_cmp (time_zone a) (time_zone b) = text_cmp a b

-- a part and what stands under it
pub record EntryValue : Type 0 where
  pub name : List ℕ
  pub children : List ChildValue

-- a name with a slash stands as a time zone under its part before the last one
abbrev pub time_zone_of : List ℕ → Option (List ℕ × ChildValue)
time_zone_of name =
    if list_any is_slash name
    then Some (before_last is_slash name, time_zone (after_last is_slash name))
    else None

-- a part with a slash stands as a submodule under its front up to the first one
abbrev pub submodule_of : List ℕ → Option (List ℕ × ChildValue)
submodule_of part =
    if list_any is_slash part
    then Some (before_first is_slash part, submodule (after_first is_slash part))
    else None

abbrev pub with_submodule : Option (List ℕ × ChildValue) → List (List ℕ × ChildValue)
with_submodule None = []
with_submodule (Some zone) = zone ∷ option_to_list (submodule_of zone.0)

-- the children that a name gives, each beside the part that it stands under
abbrev pub children_in : List ℕ → List (List ℕ × ChildValue)
children_in name = with_submodule (time_zone_of name)

-- the children of a part among pairs of a part and a child
abbrev pub children_of : List ℕ → List (List ℕ × ChildValue) → List ChildValue
children_of part pairs = map (λ pair. pair.1) (filter (λ pair. bytes_eq part pair.0) pairs)

-- each part in order, with its children in order
unfoldable pub tree_of : List (List ℕ × ChildValue) → List EntryValue
tree_of pairs =
    map (λ part. record { name = part; children = in_order child_cmp (children_of part pairs) })
    (in_order text_cmp (map (λ pair. pair.0) pairs))

unfoldable pub name_tree : List (List ℕ) → List EntryValue
name_tree names = tree_of (flat_map children_in names)
