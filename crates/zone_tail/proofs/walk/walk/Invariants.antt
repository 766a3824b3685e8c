use Rattle.std.proofs.Common.{ℕ, ◌+◌, ◌≤◌, length}
use Rattle.tz_lookup.specs.Sets.{schedule_of}
use Rattle.zone_tail.specs.{Agreement.{AgreesFrom}, Candidates.{IsAllowed}}
use Rattle.zone_tail.proofs.walk.walk.Given as goal

-- the spans from here on
abbrev pub invariant-spans : goal.invariant-spans
invariant-spans g l = record {
  within : l.from ≤ length (schedule_of (g.S.SpanTable.seen l.set)).shifts + 1;
  later : (k : ℕ) → l.from ≤ k → k ≤ length (schedule_of (g.S.SpanTable.seen l.set)).shifts
      → IsAllowed l.candidate (schedule_of (g.S.SpanTable.seen l.set)) k × AgreesFrom l.candidate (schedule_of (g.S.SpanTable.seen l.set)) l.last k;
}

abbrev pub decreases-spans : goal.decreases-spans
decreases-spans g l = l.from
