use Rattle.std.{proofs.Common.{◌≡◌, ◌++◌, sym, ap, ◌∙◌, subst, map as each}, specs.List.{flat_map}, specs.List.Sorted.{IsStrictlySortedBy}, specs.Map.Iter.{deref}, proofs.lemmas.List.{map-append}}
use Rattle.std.specs.FinMap as map
use Rattle.basics.specs.{InOrder.{in_order}, Keyed.{text_cmp}, InOrderLaws.{sorted_in_order, any-in_order}}
use Rattle.zone_table.{specs.NameTree.{children_in, tree_of, name_tree}, specs.Placed.{placed_cmp, placed_value}, proofs.TreeLemmas.{placed_total, placed_same, same_tree, same_names, same_children, names_sorted}}
use Rattle.zone_table.proofs.structure.TableStructureImpl.structure.Goals as goal

pub entries_of-requires : goal.entries_of-requires
entries_of-requires c =
    let put = ap (each placed_value) c.as_slice-3.ensures.value ∙ c.in_ok-put_in_order.ensures in
    subst (IsStrictlySortedBy placed_cmp) (sym put) (sorted_in_order placed_total (each placed_value c.in_ok-placed.placed.items))

pub returns : goal.returns
unfolding name_tree
returns c =
    let table = c.args.self.now in
    let placed = each placed_value c.in_ok-placed.placed.items in
    let put = ap (each placed_value) c.as_slice-3.ensures.value ∙ c.in_ok-put_in_order.ensures in
    let zones = c.in_ok-names.names.items in
    let links = c.in_ok-links.links.items in
    let all : c.as_slice-2.result.now ≡ zones ++ links =
    c.as_slice-2.ensures.value ∙ c.in_ok-extend_from_slice.ensures.items ∙ ap (λ more. zones ++ more) c.as_slice.ensures.value in
    let given : placed ≡ flat_map children_in (each deref zones ++ each deref links) =
    c.in_ok-placed.ensures ∙ ap (λ names. flat_map children_in (each deref names)) all
    ∙ ap (flat_map children_in) (map-append deref zones links) in
    let named : tree_of placed ≡ tree_of (flat_map children_in (map.keys table.zonesets ++ map.keys table.links)) =
    ap tree_of given ∙ same_tree _ _ (same_children _ _ (same_names _ _ _ _ c.in_ok-names.ensures c.in_ok-links.ensures)) in
    let tree : _ ≡ tree_of placed =
    c.in_ok-entries_of.ensures ∙ ap tree_of put
    ∙ same_tree (in_order placed_cmp placed) placed (λ test. any-in_order placed_same test placed) in
    record {
      value = tree ∙ named;
      in_order = subst (λ entries. IsStrictlySortedBy text_cmp (each (λ entry. entry.name) entries)) (sym tree) (names_sorted placed);
    }
