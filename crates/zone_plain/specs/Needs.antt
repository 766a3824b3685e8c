-- Sources whose links need nothing.
use Rattle.std.specs.{Prelude.{◌≡◌, ◌≤◌, ℕ, List, ◌∷◌, ◌++◌, Bool, true, false, None}, List.{list_all, sum_by}}
use Rattle.zone_outside.specs.Limit.{text_limit}
use Rattle.zone_table.specs.Values.{LineValue, zone, continuation, link}
use Rattle.zone_plain_lines.specs.Said.{is_said}
use Rattle.zone_plain.specs.{Declares.{has_zone, target_of}, Settled.{lacks_rules, link_size}}

-- it is no link, or a link to a zone
abbrev pub is_to_zone : (List ℕ → Bool) → LineValue → Bool
is_to_zone is_zone (link existing new) = is_zone existing
is_to_zone is_zone _ = true

-- the target of each link of a source is one of its zones
abbrev pub has_zones_as_targets : List LineValue → Bool
has_zones_as_targets values = list_all (is_to_zone (has_zone values)) values

-- a link to a zone, of a name that no zone and no earlier link has, which the plain form can say
pub record IsPlainLink (values before : List LineValue) (existing new : List ℕ) : Type 0 where
  pub to_zone : has_zone values existing ≡ true
  pub no_zone : has_zone values new ≡ false
  pub first : target_of before new ≡ None
  pub said : is_said (link existing new) ≡ true

-- a line that needs nothing, in a source of these values and after those before it
abbrev pub NeedsNothing : List LineValue → List LineValue → LineValue → Type 0
NeedsNothing values before (continuation info) = lacks_rules values info.saving ≡ false
NeedsNothing values before (zone name info) = (lacks_rules values info.saving ≡ false) × (has_zone before name ≡ false)
NeedsNothing values before (link existing new) = IsPlainLink values before existing new
NeedsNothing values before _ = Unit {0}

-- a source whose lines need nothing, with links that may be written
pub record IsPlain (values : List LineValue) : Type 0 where
  pub lines : (before after : List LineValue) (v : LineValue) → values ≡ before ++ v ∷ after → NeedsNothing values before v
  pub short : sum_by link_size values ≤ text_limit
