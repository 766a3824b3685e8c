use Rattle.std.proofs.Common.{◌≡◌, map, take}
use Rattle.civil_base.specs.Instants.{nanos_of}
use Rattle.tz_lookup.specs.Stretches.{IsKnown}
use Rattle.sefunjaro.specs.Rooms.{filled}
use Rattle.sefunjaro.specs.Zones.{kept_total}
use Rattle.sefunjaro.proofs.offsets.offsets_at.Given as goal

-- those of the seconds so far stand in the room, as far as they fit, and what is remembered is so
abbrev pub invariant-loop-i : goal.invariant-loop-i
invariant-loop-i l = record {
  known : IsKnown (kept_total l.zone) l.known;
  room : l.room ≡ filled (map (λ s. kept_total l.zone (nanos_of s)) (take l.i l.seconds)) l.fn.room;
}
