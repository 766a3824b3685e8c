-- Tables whose numbers are small.
use Rattle.std.specs.List.{list_all}
use Rattle.basics.specs.Keyed.{EachPasses}
use Rattle.zone_table.specs.{Bounds.{is_bounded_rule, is_bounded_info}, declared.table.Table.{Table}}

-- each rule of each ruleset and each line of each zone is bounded
pub record IsBoundedTable (table : Table) : Type 0 where
  pub rules : EachPasses (list_all is_bounded_rule) table.rulesets
  pub zones : EachPasses (list_all is_bounded_info) table.zonesets
