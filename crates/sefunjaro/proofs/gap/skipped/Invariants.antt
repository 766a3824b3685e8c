use Rattle.std.proofs.Common.{◌-◌, ◌<◌, ◌≤◌, ◌<ℤ◌}
use Rattle.civil_base.specs.Instants.{instant_at}
use Rattle.sefunjaro.specs.GapPlaces.{nth_offset}
use Rattle.sefunjaro.proofs.gap.skipped.Given as goal

-- more is in force at the instant read at the lower offset, and less at that read at the higher
abbrev pub invariant-loop-high : goal.invariant-loop-high
invariant-loop-high g l = record {
  order : l.low < l.high;
  last : l.high ≤ 187200;
  more : nth_offset l.low <ℤ g.T.TimeZone.total_at l.fn.zone (instant_at l.local (nth_offset l.low));
  less : g.T.TimeZone.total_at l.fn.zone (instant_at l.local (nth_offset l.high)) <ℤ nth_offset l.high;
}

abbrev pub decreases-loop-high : goal.decreases-loop-high
decreases-loop-high g l = l.high - l.low
