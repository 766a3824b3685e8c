use Rattle.std.proofs.Common.{ℕ, ◌<◌, ◌<ℤ◌}
use Rattle.zone_tzif.specs.Agreement.{time_of_entry}
use Rattle.zone_tzif.proofs.form.first_from.Given as goal

-- the entries so far come before
abbrev pub invariant-loop-i : goal.invariant-loop-i
invariant-loop-i g l = (j : ℕ) → j < l.i → time_of_entry (g.S.SpanTable.seen l.set) j <ℤ l.second
