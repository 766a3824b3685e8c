use Rattle.std.proofs.Common.{◌<◌, ℕ, get_or}
use Rattle.sefunjaro.specs.{Clocks.{IsClock}, declared.clock.Clock.{Clock}}
use Rattle.sefunjaro.proofs.found.faulty_place.Given as goal

-- those so far are local times
abbrev pub invariant-loop-i : goal.invariant-loop-i
invariant-loop-i l = (j : ℕ) (c : Clock) → j < l.i → IsClock (get_or l.clocks j c)
