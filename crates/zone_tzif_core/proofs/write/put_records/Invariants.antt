use Rattle.std.proofs.Common.{Bor}
use Rattle.zone_tzif_core.{specs.Shown.{kind_shown, names_seen}, specs.Tzif.{record_bytes}, specs.declared.values.Kind.{Kind}, proofs.PutLemmas.{PutSoFar}}
use Rattle.zone_tzif_core.proofs.write.put_records.Given as goal

abbrev pub invariant-loop-kind : goal.invariant-loop-kind
invariant-loop-kind l = PutSoFar (λ (kind : Bor Kind). kind_shown kind.now) (record_bytes (names_seen l.names)) l.initial.into.items l.kinds l.kind-index l.into.items
