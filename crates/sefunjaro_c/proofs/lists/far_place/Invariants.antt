use Rattle.std.proofs.Common.{◌≡◌, ◌<◌, ℕ, ℤ, get_or, true}
use Rattle.civil_base.specs.{Instants.{nanos_of}, Ranges.{is_in_years}}
use Rattle.sefunjaro_c.proofs.lists.far_place.Given as goal

-- the seconds so far lie in the years
abbrev pub invariant-loop-i : goal.invariant-loop-i
invariant-loop-i l = (j : ℕ) (d : ℤ) → j < l.i → is_in_years (nanos_of (get_or l.seconds j d)) ≡ true
