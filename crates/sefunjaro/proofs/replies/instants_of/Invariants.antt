use Rattle.std.proofs.Common.{◌≡◌, ◌++◌, map}
use Rattle.tz_lookup.specs.{AllLeft.{all_left}, InForce.{all_in_force, shown_of}}
use Rattle.sefunjaro.proofs.replies.instants_of.Given as goal

abbrev pub invariant-loop-date : goal.invariant-loop-date
invariant-loop-date g l =
    map shown_of l.found.items ++ map shown_of (all_left l.date-iterator) ≡ all_in_force (g.T.TimeZone.total_at l.zone) l.local
