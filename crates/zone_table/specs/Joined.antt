-- What the values of lines join to: rulesets, zones and links by their names. Each list of values has the latest first,
-- so that the values before one are the rest of the list. Rules and zone lines are in their owned form, as a table has them.
use Rattle.std.specs.{Prelude.{ℕ, Bool, false, List, [], ◌∷◌, ◌++◌, Option, Some, None, bytes_eq, if◌then◌else◌}, Option.{option_map_or}}
use Rattle.zone_table.specs.{Values.{LineValue, space, zone, continuation, rule, link}, Owned.{owned_rule, owned_info}, declared.rule.RuleInfo.{RuleInfo}, declared.zone.ZoneInfo.{ZoneInfo}}

-- the rules of that name, in order
abbrev pub rules_of : List LineValue → List ℕ → List RuleInfo
rules_of [] name = []
rules_of (rule r ∷ before) name = rules_of before name ++ (if bytes_eq r.name name then owned_rule r ∷ [] else [])
rules_of (value ∷ before) name = rules_of before name

-- the name of the zone to which a continuation would belong: the nearest value that is neither blank nor a continuation
-- has to be a zone
abbrev pub owner : List LineValue → Option (List ℕ)
owner [] = None
owner (space ∷ before) = owner before
owner (continuation info ∷ before) = owner before
owner (zone name info ∷ before) = Some name
owner (rule r ∷ before) = None
owner (link existing name ∷ before) = None

-- a continuation would belong to the zone of that name
abbrev pub is_owner : List LineValue → List ℕ → Bool
is_owner before name = option_map_or (λ zone_name. bytes_eq zone_name name) (owner before) false

-- the zone of that name: its first line and then the continuations that belong to it, in order; none where there is no such zone
abbrev pub zone_of : List LineValue → List ℕ → List ZoneInfo
zone_of [] name = []
zone_of (zone zone_name info ∷ before) name = zone_of before name ++ (if bytes_eq zone_name name then owned_info info ∷ [] else [])
zone_of (continuation info ∷ before) name = zone_of before name ++ (if is_owner before name then owned_info info ∷ [] else [])
zone_of (value ∷ before) name = zone_of before name

-- the name that stands for that new name
abbrev pub link_of : List LineValue → List ℕ → Option (List ℕ)
link_of [] name = None
link_of (link existing new_name ∷ before) name = if bytes_eq new_name name then Some existing else link_of before name
link_of (value ∷ before) name = link_of before name
