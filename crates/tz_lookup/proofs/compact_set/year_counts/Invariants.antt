use Rattle.std.proofs.Common.{◌≡◌, ◌<◌, ◌≤◌, ◌<ℤ◌, ℕ, length, get_or, pos, ◌-ℤ◌}
use Rattle.tz_lookup.specs.{Sets.{shifts_of}, Spans.{shift_at, IsCut}, Years.{year_second}}
use Rattle.tz_lookup.proofs.compact_set.year_counts.Given as goal

-- the counts before the years so far
abbrev pub invariant-loop-place : goal.invariant-loop-place
invariant-loop-place l = record {
  within : l.before ≤ length l.set.others;
  before : (j : ℕ) → j < l.before → l.place ≤ 1000 → (shift_at (shifts_of l.set) j).0 <ℤ year_second l.place;
  size : length l.counts ≡ l.place;
  each : (i : ℕ) → i < l.place → IsCut (shifts_of l.set) (get_or l.counts i 0) (year_second i -ℤ pos 1);
}
