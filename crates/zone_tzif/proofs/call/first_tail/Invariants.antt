use Rattle.std.proofs.Common.{ℕ, ◌<◌}
use Rattle.zone_tzif.specs.{Tails.{CarriesNothing}, Tried.{tried}}
use Rattle.zone_tzif.proofs.call.first_tail.Given as goal

-- the footers so far carry nothing on
abbrev pub invariant-loop-number : goal.invariant-loop-number
invariant-loop-number g l = (j : ℕ) → j < l.number → CarriesNothing (g.S.SpanTable.seen l.set) (tried (g.S.SpanTable.seen l.set) j)
