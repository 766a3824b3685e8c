use Rattle.std.proofs.Common.{bytes_eq}
use Rattle.zone_tzif.{specs.Causes.{name_in}, proofs.CauseLemmas.{AnyLeft}}
use Rattle.zone_tzif.proofs.causes.is_named.Given as goal

abbrev pub invariant-loop-number : goal.invariant-loop-number
invariant-loop-number g l = AnyLeft (name_in (g.S.SpanTable.seen l.set)) (bytes_eq l.name) l.numbers l.number-index
