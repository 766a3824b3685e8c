-- What the code's maps stand for, and what its answers tell.
use Rattle.std.specs.{Prelude.{◌≡◌, ℕ, List, [], ◌∷◌, ◌++◌, Bool, true, false, Option, Some, None, length, map, slice_get, unwrap_or}, FinMap.{FinMap, get, contains_key}}
use Rattle.basics.specs.Keyed.{text_cmp}
use Rattle.zone_table.specs.Values.{LineValue, space, link}
use Rattle.zone_plain_lines.specs.PlainTexts.{plain_text}
use Rattle.zone_plain.specs.{Declares.{has_zone, has_ruleset, target_of}, Leads.{zone_behind}, declared.links.Declared.{Declared}, declared.links.Seen.{Seen}}

-- the names of the zones
abbrev pub names_of : Declared → List (List ℕ)
names_of d = map (λ name. name.now) d.names.items

-- the place of a zone's name among the names, or none of what is no zone
abbrev pub IsPlaced : List (List ℕ) → List ℕ → Bool → Option ℕ → Type 0
IsPlaced names name is_zone None = is_zone ≡ false
IsPlaced names name is_zone (Some place) = (is_zone ≡ true) × (slice_get names place ≡ Some name)

-- the names are those that the lines declare
pub record IsDeclared (d : Declared) (values : List LineValue) : Type 0 where
  pub zones : (name : List ℕ) → IsPlaced (names_of d) name (has_zone values name) (get d.zones name)
  pub targets : (name : List ℕ) → get d.targets name ≡ target_of values name
  pub rulesets : (name : List ℕ) → contains_key d.rulesets name ≡ has_ruleset values name

-- whatever lines had these targets, with a link more they have the new ones
abbrev pub AddsTarget : FinMap text_cmp (List ℕ) → FinMap text_cmp (List ℕ) → List ℕ → List ℕ → Type 0
AddsTarget old new existing name =
    (values : List LineValue) → ((n : List ℕ) → get old n ≡ target_of values n)
    → (n : List ℕ) → get new n ≡ target_of (values ++ link existing name ∷ []) n

-- a name leads to the zone at a place among the names
pub record LeadsTo (names : List (List ℕ)) (values : List LineValue) (name : List ℕ) (place : ℕ) : Type 0 where
  pub zone : List ℕ
  pub here : slice_get names place ≡ Some zone
  pub behind : zone_behind values name ≡ Some zone

-- what a name leads to: no zone, or that at a place
abbrev pub IsBehind : List (List ℕ) → List LineValue → List ℕ → Option ℕ → Type 0
IsBehind names values name None = zone_behind values name ≡ None
IsBehind names values name (Some place) = LeadsTo names values name place

-- what is kept of a name leads to its zone
abbrev pub IsKept : List (List ℕ) → List LineValue → List ℕ → Option ℕ → Type 0
IsKept names values name None = Unit {0}
IsKept names values name (Some place) = LeadsTo names values name place

-- each name that was met leads to the zone at its place
abbrev pub IsKnown : List (List ℕ) → List LineValue → FinMap text_cmp ℕ → Type 0
IsKnown names values known = (name : List ℕ) → IsKept names values name (get known name)

-- what the lines before this one were, in a source of these values
pub record HasSeen (names : List (List ℕ)) (values : List LineValue) (s : Seen) (before : List LineValue) : Type 0 where
  pub zones : (name : List ℕ) → contains_key s.zones name ≡ has_zone before name
  pub targets : (name : List ℕ) → get s.targets name ≡ target_of before name
  pub known : IsKnown names values s.known

-- a source of these values is at the line after those before it
pub record IsAt (d : Declared) (s : Seen) (limit : ℕ) (values before : List LineValue) : Type 0 where
  pub declared : IsDeclared d values
  pub seen : HasSeen (names_of d) values s before
  pub few : limit ≡ length values

-- a link to the zone at a place among the names, or nothing
abbrev pub line_at_place : List (List ℕ) → Option ℕ → List ℕ → LineValue
line_at_place names None new = space
line_at_place names (Some place) new = link (unwrap_or (slice_get names place) []) new

-- the text is that of the line, if it is a link
abbrev pub IsLinkText : List ℕ → LineValue → Type 0
IsLinkText text (link existing new) = text ≡ plain_text (link existing new)
IsLinkText text _ = Unit {0}
