use Rattle.std.proofs.Common.{ℕ, ◌<◌, ◌≤◌, ◌≤ℤ◌, length}
use Rattle.tz_lookup.specs.{Spans.{shift_at}, Sets.{shifts_of}}
use Rattle.tz_lookup.proofs.set.times_do_not_fall.Given as goal

abbrev pub invariant-loop-i : goal.invariant-loop-i
invariant-loop-i l =
    (a b : ℕ) → a ≤ b → b < l.i → b < length (shifts_of l.set) → (shift_at (shifts_of l.set) a).0 ≤ℤ (shift_at (shifts_of l.set) b).0
