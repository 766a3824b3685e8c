use Rattle.std.proofs.Common.{◌≡◌, ◌+◌, ◌≤◌, length, map, take, drop}
use Rattle.tz_lookup.specs.{AllLeft.{all_left}, InForce.{all_in_force, shown_of}}
use Rattle.sefunjaro.specs.{Asked.{reading_of}, Rooms.{filled}}
use Rattle.sefunjaro.proofs.zone.readings.Given as goal

-- as many instants as were met stand in the room, as far as they fit, and the others are left
abbrev pub invariant-loop-date : goal.invariant-loop-date
invariant-loop-date g l =
    let all = all_in_force (g.T.TimeZone.total_at l.zone) l.local in record {
      few : length all ≤ 187199;
      count : l.count + length (all_left l.date-iterator) ≡ length all;
      left : map shown_of (all_left l.date-iterator) ≡ drop l.count all;
      room : l.room ≡ filled (map reading_of (take l.count all)) l.fn.room;
    }
