use Rattle.std.proofs.Common.{◌≡◌, ◌<◌, ◌≤◌, ℕ, get_or}
use Rattle.tz_lookup.specs.Stretches.{IsKnown}
use Rattle.sefunjaro.specs.{Clocks.{clock_shown}, Found.{IsFound}, declared.clock.Clock.{Clock}, declared.found.Found.{Found}}
use Rattle.sefunjaro.specs.Zones.{total_in}
use Rattle.sefunjaro.proofs.found.fill_found.Given as goal

-- the items so far are what is found, behind them is what was there, and what is remembered is so
abbrev pub invariant-loop-i : goal.invariant-loop-i
invariant-loop-i l = record {
  each : (j : ℕ) (c : Clock) (f : Found) → j < l.i → IsFound (total_in l.zone) l.fold l.gap (clock_shown (get_or l.clocks j c)) (get_or l.room j f);
  behind : (j : ℕ) (f : Found) → l.i ≤ j → get_or l.room j f ≡ get_or l.fn.room j f;
  known : IsKnown (total_in l.zone) l.known;
}
