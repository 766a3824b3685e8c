use Rattle.std.proofs.Common.{◌≤◌, length, ◌<ℤ◌, FitsSigned, w64, rules, to_z-of_z, subst, arith}
use Rattle.basics.specs.ComparisonLaws.{lt_from_pass}
use Rattle.tz_lookup.specs.{Sets.{shifts_of}, Spans.{IsCut}}
use Rattle.zone_tzif.proofs.FrontLemmas.{count_is, cut_by}
use Rattle.zone_tzif.proofs.until.count_until.Goals as goal

pub returns-then-second-time : goal.returns-then-second-time
returns-then-second-time g c =
    let set = g.S.SpanTable.seen c.args.set.now in
    let fits : FitsSigned w64 c.time.result = search rules in
    let within : c.loop-i.i ≤ length set.others = omega (arith, c.entry_count-i-end.ensures.count) in
    let low = lt_from_pass _ _ (rw (to_z-of_z c.ranges.second, to_z-of_z fits) at c.if-second-time.true) in
    let cut : IsCut (shifts_of set) c.loop-i.i c.args.second = cut_by set c.loop-i.i c.args.second c.requires within (rw (to_z-of_z c.ranges.second) at c.loop-i.invariant)
    (λ inside. subst (λ x. c.args.second <ℤ x) c.time.ensures low) in
    record { is = count_is set c.loop-i.i c.args.second cut; cut = cut; within = within; bound = omega arith }

pub returns : goal.returns
returns g c =
    let set = g.S.SpanTable.seen c.args.set.now in
    let before = rw (to_z-of_z c.ranges.second) at c.loop-i.invariant in
    let within : c.entry_count.result ≤ length set.others = omega (arith, c.entry_count.ensures.count) in
    let cut : IsCut (shifts_of set) c.entry_count.result c.args.second = cut_by set c.entry_count.result c.args.second c.requires within
    (λ j l. before j (omega (arith, c.entry_count.ensures.count, c.entry_count-i-end.ensures.count)))
    (λ inside. absurd (omega (arith, c.entry_count.ensures.count, inside))) in
    record { is = count_is set c.entry_count.result c.args.second cut; cut = cut; within = within; bound = omega arith }
