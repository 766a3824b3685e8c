use Rattle.std.specs.{Prelude.{◌==◌, not}, List.{list_all}}
use Rattle.zone_tzif.{specs.Causes.{name_in}, proofs.CauseLemmas.{AllLeft}}
use Rattle.zone_tzif.proofs.causes.have_no_zero.Given as goal

abbrev pub invariant-loop-number : goal.invariant-loop-number
invariant-loop-number g l = AllLeft (name_in (g.S.SpanTable.seen l.set)) (list_all (λ c. not (c == 0))) l.numbers l.number-index
