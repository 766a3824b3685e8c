-- The names that the lines of a source give to zones and links, and what they find.
use Rattle.std.specs.{Prelude.{ℕ, Bool, not, List, [], ◌∷◌, ◌++◌, filter, reverse, is_some, Option, option_map, Result}, FinMap.{get, keys}, List.{flat_map}}
use Rattle.basics.specs.{InOrder.{in_order}, Keyed.{text_cmp}, Listed.{listed}}
use Rattle.tz_lookup.specs.Compiles.{compiled_in}
use Rattle.zone_tree.specs.{ArchiveEntries.{Content}, Contents.{Found, zone_content}, declared.refusal.Why.{Why}}
use Rattle.zone_source.specs.Zones.{rules_in, values_of, zone_in}
use Rattle.zone_spans.specs.Compiled.{compiled}
use Rattle.zone_table.specs.{Joined.{zone_of, link_of}, declared.table.Table.{Table}, Values.{LineValue, zone, link}}

-- the name that a line gives to a zone
abbrev pub zone_names : LineValue → List (List ℕ)
zone_names (zone name info) = name ∷ []
zone_names value = []

-- the new name that a line gives by a link
abbrev pub link_names : LineValue → List (List ℕ)
link_names (link existing name) = name ∷ []
link_names value = []

-- the name that a line gives to a zone or by a link
abbrev pub names_by : LineValue → List (List ℕ)
names_by value = zone_names value ++ link_names value

-- those that the lines of a source give
unfoldable pub given_names : List ℕ → List (List ℕ)
given_names source = flat_map names_by (reverse (values_of source))

-- what the zone of a name is compiled to, under the rules of the source
unfoldable pub found_in : List ℕ → List ℕ → Found
found_in source name = option_map (compiled (rules_in source)) (zone_in source name)

-- the names of zones and the new names of links, each in byte order and once, and what they find: whether a name is a zone's own,
-- what that has in the archive, and the name that a link is to
pub record Finds : Type 0 where
  pub zones : List (List ℕ)
  pub links : List (List ℕ)
  pub is_zone : List ℕ → Bool
  pub content : List ℕ → Result Content Why
  pub target : List ℕ → Option (List ℕ)

abbrev pub finds_by : List ℕ → (List ℕ → Result Content Why) → Finds
finds_by source content = record {
  zones = in_order text_cmp (flat_map zone_names (reverse (values_of source)));
  links = in_order text_cmp (flat_map link_names (reverse (values_of source)));
  is_zone = λ name. is_some (listed (zone_of (reverse (values_of source)) name));
  content = content;
  target = link_of (reverse (values_of source));
}

abbrev pub finds_in : List ℕ → Finds
finds_in source = finds_by source (λ name. zone_content name (found_in source name))

-- the same of a table
abbrev pub finds_by_table : Table → (List ℕ → Result Content Why) → Finds
finds_by_table table content = record {
  zones = keys table.zonesets;
  links = keys table.links;
  is_zone = λ name. is_some (get table.zonesets name);
  content = content;
  target = get table.links;
}

abbrev pub finds_in_table : Table → Finds
finds_in_table table = finds_by_table table (λ name. zone_content name (compiled_in table name))

-- those of some names that are no zone's own
abbrev pub others : (List ℕ → Bool) → List (List ℕ) → List (List ℕ)
others is_zone names = filter (λ name. not (is_zone name)) names

-- the zones, and then the links
abbrev pub archive_names : Finds → List (List ℕ)
archive_names finds = finds.zones ++ others finds.is_zone finds.links
