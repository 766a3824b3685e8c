-- Berlin's summer of 2024, from 2024-03-31 01:00 UTC up to 2024-10-27 01:00 UTC, as Python's `zoneinfo` has it, and what lies around it.
use Rattle.std.proofs.Common.{◌≡◌, [], ◌∷◌, map, pos, negsuc, refl}
use Rattle.zone_spans.specs.Schedules.{Schedule}
use Rattle.tz_lookup.specs.Stretches.{stretch_begin, stretch_end}

abbrev berlin : Schedule
berlin = record { first = pos 3600; shifts = (pos 1711846800, pos 7200) ∷ (pos 1729990800, pos 3600) ∷ [] }

begins : map (stretch_begin berlin) (pos 1711846799 ∷ pos 1711846800 ∷ pos 1729990799 ∷ pos 1729990800 ∷ [])
    ≡ negsuc 9223372036854775807 ∷ pos 1711846800 ∷ pos 1711846800 ∷ pos 1729990800 ∷ []
unfolding stretch_begin
begins = refl

ends : map (stretch_end berlin) (pos 1711846799 ∷ pos 1711846800 ∷ pos 1729990799 ∷ pos 1729990800 ∷ [])
    ≡ pos 1711846800 ∷ pos 1729990800 ∷ pos 1729990800 ∷ pos 9223372036854775807 ∷ []
unfolding stretch_end
ends = refl
