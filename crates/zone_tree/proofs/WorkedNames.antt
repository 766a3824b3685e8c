-- Which names a source has in its archive, at worked rows.
use Rattle.std.{proofs.Common.{◌≡◌, ℕ, List, [], ◌∷◌, map, reverse, codes, Some, None, true, false, refl}, specs.List.{flat_map}, proofs.lemmas.Cmp.{nat_list_cmp_total}}
use Rattle.basics.specs.{InOrderLaws.{RisesStrictly, sorted_in_order, rises_from_sorted}, Keyed.{text_cmp}}
use Rattle.zone_source.specs.Zones.{values_of}
use Rattle.zone_table.specs.Values.{InfoValue, RuleValue, space, zone, continuation, rule, link}
use Rattle.zone_tree.specs.Names.{zone_names, link_names, names_by, finds_in, given_names, archive_names}

-- a zone has its name, a link its new one, and no other line has one
module _ (info : InfoValue) (r : RuleValue) where
  names_of_lines : map names_by (zone (codes "A") info ∷ continuation info ∷ link (codes "A") (codes "B") ∷ rule r ∷ space ∷ [])
      ≡ (codes "A" ∷ []) ∷ [] ∷ (codes "B" ∷ []) ∷ [] ∷ [] ∷ []
  names_of_lines = refl

  names_of_zones : map zone_names (zone (codes "A") info ∷ continuation info ∷ link (codes "A") (codes "B") ∷ rule r ∷ space ∷ [])
      ≡ (codes "A" ∷ []) ∷ [] ∷ [] ∷ [] ∷ [] ∷ []
  names_of_zones = refl

  names_of_links : map link_names (zone (codes "A") info ∷ continuation info ∷ link (codes "A") (codes "B") ∷ rule r ∷ space ∷ [])
      ≡ [] ∷ [] ∷ (codes "B" ∷ []) ∷ [] ∷ [] ∷ []
  names_of_links = refl

-- the lines `Zone M ..`, `Link M B`, `Link X C`, `Link B D` and `Link B M`, the latest first: C and D are links to no zone, and M is
-- a zone's own name, whatever is a link
module _ (source : List ℕ) (info : InfoValue) (latest : reverse (values_of source)
    ≡ link (codes "B") (codes "M") ∷ link (codes "B") (codes "D") ∷ link (codes "X") (codes "C") ∷ link (codes "M") (codes "B")
    ∷ zone (codes "M") info ∷ []) where
  names_of_a_source : given_names source ≡ codes "M" ∷ codes "D" ∷ codes "C" ∷ codes "B" ∷ codes "M" ∷ []
  unfolding given_names
  names_of_a_source = rw latest refl

  own_names : map (finds_in source).is_zone (codes "B" ∷ codes "C" ∷ codes "M" ∷ codes "X" ∷ []) ≡ false ∷ false ∷ true ∷ false ∷ []
  own_names = rw latest refl

  targets : map (finds_in source).target (codes "B" ∷ codes "C" ∷ codes "M" ∷ codes "X" ∷ [])
      ≡ Some (codes "M") ∷ Some (codes "X") ∷ Some (codes "B") ∷ None ∷ []
  targets = rw latest refl

  -- the zone, and then the links, in byte order
  order_of_a_source : archive_names (finds_in source) ≡ codes "M" ∷ codes "B" ∷ codes "C" ∷ codes "D" ∷ []
  order_of_a_source = rw latest refl

-- each once, in byte order
zones_rise : (source : List ℕ) → RisesStrictly text_cmp (finds_in source).zones
zones_rise source = rises_from_sorted text_cmp _ (sorted_in_order nat_list_cmp_total (flat_map zone_names (reverse (values_of source))))

links_rise : (source : List ℕ) → RisesStrictly text_cmp (finds_in source).links
links_rise source = rises_from_sorted text_cmp _ (sorted_in_order nat_list_cmp_total (flat_map link_names (reverse (values_of source))))
