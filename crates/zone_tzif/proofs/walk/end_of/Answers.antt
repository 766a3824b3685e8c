use Rattle.std.proofs.{Common.{◌≡◌, suc, ◌+◌, w64, FitsSigned, rules, ap, ◌∙◌, arith}, lemmas.Int.{ints}}
use Rattle.zone_tzif.{specs.Agreement.{time_of_entry}, proofs.StepLemmas.{length-shifts}}
use Rattle.zone_tzif.proofs.walk.end_of.Goals as goal

pub returns-then-entry-entry_count-clause-end : goal.returns-then-entry-entry_count-clause-end
returns-then-entry-entry_count-clause-end g c s =
    let set = g.S.SpanTable.seen c.args.set.now in
    let fits : FitsSigned w64 c.sooner.result = search rules in
    let fits_time : FitsSigned w64 c.time.result = search rules in
    let next : c.args.entry + 1 ≡ suc c.args.entry = omega arith in
    let is = c.time.ensures ∙ ap (time_of_entry set) next in
    let both = c.sooner.ensures.before s in (
      (λ h. let parts = both.0 (omega (arith, ints, h)) in
          record { next = λ inside. omega (arith, ints, parts.0, is); cycle = omega (arith, ints, parts.1) }),
      (λ h. let one = h.next (omega (arith, length-shifts set.others, next)) in
          let r = both.1 (omega (arith, ints, one, is), omega (arith, ints, h.cycle)) in omega (arith, ints, r)),
    )

pub returns-else-entry-entry_count-clause-end : goal.returns-else-entry-entry_count-clause-end
returns-else-entry-entry_count-clause-end g c s =
    let set = g.S.SpanTable.seen c.args.set.now in
    let next : c.args.entry + 1 ≡ suc c.args.entry = omega arith in (
      (λ h. record { next = λ inside. absurd (omega (arith, length-shifts set.others, next, inside)); cycle = omega (arith, ints, h) }),
      (λ h. omega (arith, ints, h.cycle)),
    )
