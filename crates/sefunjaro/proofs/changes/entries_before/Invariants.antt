use Rattle.std.proofs.Common.{◌-◌, ◌<◌, ◌≤◌, ◌<ℤ◌, ◌≤ℤ◌, ℕ, length}
use Rattle.tz_lookup.specs.{Sets.{shifts_of}, Spans.{shift_at}}
use Rattle.sefunjaro.proofs.changes.entries_before.Given as goal

-- the entries below the lower place lie before the second, and those from the higher place on don't
abbrev pub invariant-loop-low : goal.invariant-loop-low
invariant-loop-low g l =
    let shifts = shifts_of (g.S.SpanTable.seen l.set) in record {
      order : l.low ≤ l.high;
      within : l.high ≤ length (g.S.SpanTable.seen l.set).others;
      before : (j : ℕ) → j < l.low → (shift_at shifts j).0 <ℤ l.second;
      after : (j : ℕ) → l.high ≤ j → j < length (g.S.SpanTable.seen l.set).others → l.second ≤ℤ (shift_at shifts j).0;
    }

abbrev pub decreases-loop-low : goal.decreases-loop-low
decreases-loop-low g l = l.high - l.low
