use Rattle.std.proofs.Common.{map, drop}
use Rattle.tz_lookup.specs.Databases.{name_shown}
use Rattle.zone_tree.{specs.Entries.{entry_of}, specs.Names.{finds_by_table}, proofs.TreeLemmas.{HasPut}}
use Rattle.zone_tree.proofs.whole.put_names.Given as goal

-- the entries of the names so far were put at the end, and those of the names left are to come
abbrev pub invariant-loop-name : goal.invariant-loop-name
invariant-loop-name g l =
    HasPut (entry_of (finds_by_table l.table (g.F.ZoneFiles.content l.files))) (map name_shown l.ordered) (map name_shown (drop l.name-index l.ordered)) l.fn.into.items l.into.items
