use Rattle.std.proofs.Common.{◌≡◌, take}
use Rattle.tz_lookup.specs.Stretches.{IsKnown}
use Rattle.sefunjaro.specs.{Rooms.{filled}, Shown.{clocks_of}}
use Rattle.sefunjaro.specs.Zones.{kept_total}
use Rattle.sefunjaro.proofs.shown.fill_clocks.Given as goal

-- those of the seconds so far stand in the room, as far as they fit, and what is remembered is so
abbrev pub invariant-loop-i : goal.invariant-loop-i
invariant-loop-i l = record {
  known : IsKnown (kept_total l.zone) l.known;
  room : l.room ≡ filled (clocks_of (kept_total l.zone) (take l.i l.seconds)) l.fn.room;
}
