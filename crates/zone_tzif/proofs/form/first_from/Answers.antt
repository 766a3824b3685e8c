use Rattle.std.proofs.Common.{◌≤◌, length, ◌≤ℤ◌, FitsSigned, w64, rules, to_z-of_z, subst, sym, arith}
use Rattle.basics.specs.ComparisonLaws.{le_from_pass}
use Rattle.tz_lookup.specs.Sets.{shifts_of}
use Rattle.zone_tzif.proofs.{FormLemmas.{first_from-is}, StepLemmas.{length-shifts}}
use Rattle.zone_tzif.proofs.form.first_from.Goals as goal

pub returns-then-second-time-clause-is : goal.returns-then-second-time-clause-is
returns-then-second-time-clause-is g c =
    let set = g.S.SpanTable.seen c.args.set.now in
    let fits : FitsSigned w64 c.time.result = search rules in
    let within : c.loop-i.i ≤ length (shifts_of set) = omega (arith, length-shifts set.others, c.entry_count-i-end.ensures.count) in
    let low = le_from_pass _ _ (rw (to_z-of_z c.ranges.second, to_z-of_z fits) at c.if-second-time.true) in
    sym (first_from-is (shifts_of set) c.args.second c.loop-i.i within (rw (to_z-of_z c.ranges.second) at c.loop-i.invariant)
    (λ inside. subst (λ x. c.args.second ≤ℤ x) c.time.ensures low))

pub returns-clause-is : goal.returns-clause-is
returns-clause-is g c =
    let set = g.S.SpanTable.seen c.args.set.now in
    let before = rw (to_z-of_z c.ranges.second) at c.loop-i.invariant in
    let within : c.entry_count.result ≤ length (shifts_of set) = omega (arith, length-shifts set.others, c.entry_count.ensures.count) in
    sym (first_from-is (shifts_of set) c.args.second c.entry_count.result within
    (λ j l. before j (omega (arith, c.entry_count.ensures.count, c.entry_count-i-end.ensures.count)))
    (λ inside. absurd (omega (arith, length-shifts set.others, c.entry_count.ensures.count, inside))))
