use Rattle.std.{proofs.Common.{◌≡◌, take, map}, specs.Prelude.{filter, reverse}}
use Rattle.basics.specs.{InOrder.{in_order}, Keyed.{text_cmp}}
use Rattle.tz_lookup.specs.Databases.{name_shown, resolves}
use Rattle.tz_lookup.proofs.database.in_order.Given as goal

-- the names so far are in order
abbrev pub invariant-loop-name : goal.invariant-loop-name
invariant-loop-name l =
    map name_shown l.names.keys ≡ in_order text_cmp (reverse (filter (resolves l.table) (map name_shown (take l.name-index l.all))))
