-- The names that lines declare: zones, rulesets and links.
use Rattle.std.specs.{Prelude.{ℕ, List, [], ◌∷◌, Bool, false, ◌||◌, Option, Some, None, bytes_eq, if◌then◌else◌}, Option.{option_or}}
use Rattle.zone_table.specs.Values.{LineValue, zone, rule, link}

abbrev pub zone_name : LineValue → Option (List ℕ)
zone_name (zone name info) = Some name
zone_name _ = None

abbrev pub ruleset_name : LineValue → Option (List ℕ)
ruleset_name (rule r) = Some r.name
ruleset_name _ = None

abbrev pub is_that : Option (List ℕ) → List ℕ → Bool
is_that None name = false
is_that (Some declared) name = bytes_eq declared name

-- some line declares the name
abbrev pub declares : (LineValue → Option (List ℕ)) → List LineValue → List ℕ → Bool
declares name_of [] name = false
declares name_of (v ∷ vs) name = is_that (name_of v) name || declares name_of vs name

-- some line is the first of a zone of that name
abbrev pub has_zone : List LineValue → List ℕ → Bool
has_zone = declares zone_name

-- some line is a rule of that ruleset
abbrev pub has_ruleset : List LineValue → List ℕ → Bool
has_ruleset = declares ruleset_name

-- the target of a line that links that new name
abbrev pub target_by : LineValue → List ℕ → Option (List ℕ)
target_by (link existing new) name = if bytes_eq new name then Some existing else None
target_by _ name = None

-- the target of the first link with that new name
abbrev pub target_of : List LineValue → List ℕ → Option (List ℕ)
target_of [] name = None
target_of (v ∷ vs) name = option_or (target_by v name) (target_of vs name)
