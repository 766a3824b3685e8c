use Rattle.std.proofs.Common.{[], string_bytes, bytes_eq}
use Rattle.zone_tzif_core.{specs.Shown.{names_seen}, proofs.DistinctLemmas.{OnceSoFar}}
use Rattle.zone_tzif_core.proofs.distinct.distinct_names.Given as goal

abbrev pub invariant-loop-kind : goal.invariant-loop-kind
invariant-loop-kind l = OnceSoFar (λ kind. string_bytes kind.now.name) bytes_eq [] l.kinds l.kind-index (names_seen l.names.items)
