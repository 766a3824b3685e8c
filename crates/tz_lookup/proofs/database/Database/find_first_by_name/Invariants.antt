use Rattle.std.proofs.Common.{◌≡◌, find}
use Rattle.tz_lookup.specs.Databases.{has_part}
use Rattle.tz_lookup.proofs.database.Database.find_first_by_name.Given as goal

-- what is found among the zones that are left is what is found among all
abbrev pub invariant-loop-zone : goal.invariant-loop-zone
invariant-loop-zone l = find (λ set. has_part l.name set.name) l.zone-iterator ≡ find (λ set. has_part l.name set.name) l.self
