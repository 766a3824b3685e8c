use Rattle.zone_tzif.proofs.CauseLemmas.{KindsSoFar}
use Rattle.zone_tzif.proofs.causes.distinct_kinds.Given as goal

abbrev pub invariant-loop-span : goal.invariant-loop-span
invariant-loop-span g l = KindsSoFar l.saves (g.S.SpanTable.seen l.set) l.span l.numbers.items
