use Rattle.std.proofs.Common.{◌≡◌, ◌≤◌, ◌*◌, ◌∷◌, length, take}
use Rattle.civil_base.specs.Layout.{offset_text}
use Rattle.tz_lookup.specs.Stretches.{IsKnown}
use Rattle.sefunjaro.specs.{Rooms.{filled}, Shown.{texts_of}}
use Rattle.sefunjaro.specs.Zones.{kept_total}
use Rattle.sefunjaro.proofs.shown.fill_texts.Given as goal

-- the texts of the seconds so far stand in the room, as far as they fit, and what is remembered is so
abbrev pub invariant-loop-i : goal.invariant-loop-i
invariant-loop-i l = record {
  known : IsKnown (kept_total l.zone) l.known;
  east : l.east.text ≡ 32 ∷ offset_text l.east.offset;
  whole : l.whole ≡ length (texts_of (kept_total l.zone) (take l.i l.seconds));
  bound : l.whole ≤ 41 * l.i;
  room : l.room ≡ filled (texts_of (kept_total l.zone) (take l.i l.seconds)) l.fn.room;
}
