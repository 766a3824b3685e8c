use Rattle.std.proofs.Common.{◌≡◌, ◌++◌, map}
use Rattle.tz_lookup.specs.Databases.{name_shown, names_of}
use Rattle.sefunjaro.proofs.source.names_of.Given as goal

-- the names so far and those that are left make the whole
abbrev pub invariant-loop-name : goal.invariant-loop-name
invariant-loop-name l = l.names ++ map name_shown l.name-iterator ≡ names_of l.table
