use Rattle.std.proofs.Common.{ℕ, ◌<◌, ◌≤ℤ◌}
use Rattle.tz_lookup.specs.{Sets.{shifts_of}, Spans.{shift_at}}
use Rattle.zone_tzif.proofs.until.count_until.Given as goal

-- the entries so far have come
abbrev pub invariant-loop-i : goal.invariant-loop-i
invariant-loop-i g l = (j : ℕ) → j < l.i → (shift_at (shifts_of (g.S.SpanTable.seen l.set)) j).0 ≤ℤ l.second
