use Rattle.std.{proofs.Common.{◌≡◌, map, take}, specs.Prelude.{filter}}
use Rattle.tz_lookup.specs.{Databases.{has_part}, Zones.{set_of}}
use Rattle.tz_lookup.proofs.database.with_part.Given as goal

-- those of the zones so far
abbrev pub invariant-loop-known : goal.invariant-loop-known
invariant-loop-known l =
    map set_of l.found.items ≡ filter (λ set. has_part l.part set.name) (map (λ known. known.set) (take l.known-index l.zones))
