use Rattle.std.{proofs.Common.{◌≡◌, ◌++◌, map, take}, specs.FinMap.{get}, specs.Prelude.{is_some}}
use Rattle.tz_lookup.specs.Databases.{name_shown}
use Rattle.zone_tree.specs.Names.{others}
use Rattle.zone_tree.proofs.names.put_others.Given as goal

-- what is no zone's own of the names so far was put at the end
abbrev pub invariant-loop-name : goal.invariant-loop-name
invariant-loop-name l =
    map name_shown l.into.items ≡ map name_shown l.fn.into.items
    ++ others (λ name. is_some (get l.table.zonesets name)) (map name_shown (take l.name-index l.names))
