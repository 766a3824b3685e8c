use Rattle.std.proofs.{Common.{◌+◌, pos, subst, ◌<ℤ◌, rules, w64, SFits}, lemmas.Int.{to_z-of_z}}
use Rattle.zone_spans.{proofs.QuietLemmas.{too_early}, specs.Years.{earliest_year}}
use Rattle.zone_spans.proofs.fault.years_before.Goals as goal

pub returns-in-Number-clause-before : goal.returns-in-Number-clause-before
returns-in-Number-clause-before c i below =
    let fits : SFits w64 c.in-Number.first = search rules in
    let early = subst (λ y. pos (earliest_year + i) <ℤ y) (to_z-of_z w64 c.in-Number.first fits) (c.years_until.ensures.before i below) in
    too_early c.args.rule.now c.in-Number.first (pos (earliest_year + i)) c.in-Number.is early
