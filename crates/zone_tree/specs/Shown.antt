-- What the code's lists of names show.
use Rattle.std.specs.Prelude.{ℕ, List, ◌++◌, map}
use Rattle.tz_lookup.specs.Databases.{name_shown}
use Rattle.zone_tree.specs.declared.names.Names.{Names}

-- those of zones, and those of links
abbrev pub all_names : Names → List (List ℕ)
all_names names = map name_shown names.zones.now ++ map name_shown names.links.now
