use Rattle.zone_tzif_core.specs.{Shown.{record_shown}, Tzif.{is_same}}
use Rattle.zone_tzif.{specs.Causes.{kind_in}, proofs.CauseLemmas.{AnyLeft}}
use Rattle.zone_tzif.proofs.causes.is_kept.Given as goal

abbrev pub invariant-loop-number : goal.invariant-loop-number
invariant-loop-number g l = AnyLeft (kind_in l.saves (g.S.SpanTable.seen l.set)) (is_same (record_shown l.kind)) l.numbers l.number-index
