-- The look-up of a zone, through one link at most.
use Rattle.std.specs.{Prelude.{◌≡◌, ℕ, List, Option, option_and_then}, Option.{option_or}, FinMap.{get}}
use Rattle.basics.specs.Listed.{listed}
use Rattle.zone_table.specs.{Values.{LineValue}, Joined.{zone_of, link_of}, Tables.{IsTableOfLatest}, declared.table.Table.{Table}, declared.zone.ZoneInfo.{ZoneInfo}}

-- the zone of that name, else the zone that the link of that name leads to, of values given the latest first
abbrev pub resolved : List LineValue → List ℕ → Option (List ZoneInfo)
resolved latest name =
    option_or (listed (zone_of latest name)) (option_and_then (λ existing. listed (zone_of latest existing)) (link_of latest name))

-- the same of a table
abbrev pub resolved_in : Table → List ℕ → Option (List ZoneInfo)
resolved_in table name =
    option_or (get table.zonesets name) (option_and_then (λ existing. get table.zonesets existing) (get table.links name))

-- a table of values resolves as the values do
pub resolved_in-IsTableOf : (table : Table) (latest : List LineValue) → IsTableOfLatest table latest
    → (name : List ℕ) → resolved_in table name ≡ resolved latest name
resolved_in-IsTableOf table latest is name =
    λ i. option_or (is.zonesets name i) (option_and_then (λ existing. is.zonesets existing i) (is.links name i))
