-- The names of a table stand in order, each once.
use Rattle.std.{specs.Prelude.{◌++◌, filter}, specs.FinMap.{keys}, proofs.lemmas.Cmp.{nat_list_cmp_total}}
use Rattle.basics.specs.{InOrderLaws.{sorted_in_order, rises_from_sorted, RisesStrictly}, Keyed.{text_cmp}}
use Rattle.zone_table.specs.declared.table.Table.{Table}
use Rattle.tz_lookup.specs.Databases.{names_of, resolves}

pub names_rise : (table : Table) → RisesStrictly text_cmp (names_of table)
unfolding names_of
names_rise table = rises_from_sorted text_cmp _ (sorted_in_order nat_list_cmp_total (filter (resolves table) (keys table.zonesets ++ keys table.links)))
