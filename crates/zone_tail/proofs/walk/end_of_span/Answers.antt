use Rattle.std.proofs.{Common.{w64, FitsSigned, rules, arith}, lemmas.Int.{ints}}
use Rattle.zone_tail.proofs.SpanLemmas.{length-shifts}
use Rattle.zone_tail.proofs.walk.end_of_span.Goals as goal

pub returns-then-span-entry_count-clause-end : goal.returns-then-span-entry_count-clause-end
returns-then-span-entry_count-clause-end g c s =
    let fits : FitsSigned w64 c.sooner.result = search rules in
    let fits_time : FitsSigned w64 c.time.result = search rules in
    let both = c.sooner.ensures.before s in (
      (λ h. let parts = both.0 (omega (arith, ints, h)) in
          ((λ inside. omega (arith, ints, parts.0, c.time.ensures)), omega (arith, ints, parts.1))),
      (λ h. let one = h.0 (omega (arith, length-shifts (g.S.SpanTable.seen c.args.set.now).others)) in
          let r = both.1 (omega (arith, ints, one, c.time.ensures), omega (arith, ints, h.1)) in omega (arith, ints, r)),
    )
