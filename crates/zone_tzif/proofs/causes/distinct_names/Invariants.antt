use Rattle.std.proofs.Common.{◌≤◌, length}
use Rattle.zone_tzif.proofs.CauseLemmas.{NamesSoFar}
use Rattle.zone_tzif.proofs.causes.distinct_names.Given as goal

abbrev pub invariant-loop-kind : goal.invariant-loop-kind
invariant-loop-kind g l = NamesSoFar (g.S.SpanTable.seen l.set) l.kinds l.kind-index l.names.items × (length l.names.items ≤ l.kind-index)
