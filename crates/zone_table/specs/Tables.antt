-- The table of a list of values.
use Rattle.std.specs.{Prelude.{◌≡◌, ℕ, List, reverse}, FinMap.{get}}
use Rattle.basics.specs.Listed.{listed}
use Rattle.zone_table.specs.{Values.{LineValue}, Joined.{rules_of, zone_of, link_of}, declared.table.Table.{Table}}

-- at each name the table has what the values give, and nothing where they give nothing; the values are given the latest first
pub record IsTableOfLatest (table : Table) (latest : List LineValue) : Type 0 where
  pub rulesets : (name : List ℕ) → get table.rulesets name ≡ listed (rules_of latest name)
  pub zonesets : (name : List ℕ) → get table.zonesets name ≡ listed (zone_of latest name)
  pub links : (name : List ℕ) → get table.links name ≡ link_of latest name

-- the same of values in their order
abbrev pub IsTableOf : Table → List LineValue → Type 0
IsTableOf table values = IsTableOfLatest table (reverse values)
