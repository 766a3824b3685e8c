use Rattle.std.{proofs.Common.{◌≡◌, ℕ, ◌+◌, ◌-◌, ◌*◌, ◌^◌, ◌<◌, ◌≤◌}, specs.declared.cmp.Ordering.TheVariants.{Less, Greater}}
use Rattle.tz_lookup.proofs.search.halve.Given as goal

abbrev pub invariant-search : goal.invariant-search
invariant-search g l = record {
  from : l.start ≤ l.low;
  order : l.low ≤ l.high;
  to : l.high ≤ l.end;
  before : (k : ℕ) → l.start ≤ k → k < l.low → g.P.ProbeBy.order l.probe k ≡ Less;
  after : (k : ℕ) → l.high ≤ k → k < l.end → g.P.ProbeBy.order l.probe k ≡ Greater;
  later : l.fn.steps ≤ l.steps;
  cost : 2 ^ (l.steps - l.fn.steps) ≤ 2 * (l.end - l.start) + 1;
  left : 2 ^ (l.steps - l.fn.steps) * (2 * (l.high - l.low)) ≤ 2 * (l.end - l.start);
}

abbrev pub decreases-search : goal.decreases-search
decreases-search g l = l.high - l.low
