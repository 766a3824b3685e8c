-- The zone that a name leads to.
use Rattle.std.specs.Prelude.{ℕ, zero, suc, List, Bool, Option, Some, None, option_and_then, length, if◌then◌else◌}
use Rattle.zone_table.specs.Values.{LineValue}
use Rattle.zone_plain.specs.Declares.{has_zone, target_of}

-- where a name leads by at most so many links: a zone to itself, and a link to where its target leads
abbrev pub leads : (List ℕ → Bool) → (List ℕ → Option (List ℕ)) → ℕ → List ℕ → Option (List ℕ)
leads is_zone target zero name = if is_zone name then Some name else None
leads is_zone target (suc n) name = if is_zone name then Some name else option_and_then (leads is_zone target n) (target name)

-- among the zones and the links of a source
abbrev pub leads_to : List LineValue → ℕ → List ℕ → Option (List ℕ)
leads_to values n name = leads (has_zone values) (target_of values) n name

-- the zone behind a name; none behind one that nothing declares, nor behind links in a circle
unfoldable pub zone_behind : List LineValue → List ℕ → Option (List ℕ)
zone_behind values name = leads_to values (length values) name
