use Rattle.std.proofs.Common.{◌≡◌, ◌++◌, map}
use Rattle.civil_base.specs.DateTimes.{instant}
use Rattle.tz_lookup.specs.CompactLeft.{compact_left}
use Rattle.zone_uses.proofs.asked.every_instant.Given as goal

abbrev pub invariant-loop-each : goal.invariant-loop-each
invariant-loop-each l =
    map instant l.found.items ++ map instant (compact_left l.each-iterator) ≡ map instant (compact_left l.initial.each-iterator)
