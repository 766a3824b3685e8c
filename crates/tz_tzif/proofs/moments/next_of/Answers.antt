use Rattle.std.proofs.{Common.{FitsSigned, w64, rules, to_z-of_z, arith}, lemmas.Int.{ints}}
use Rattle.tz_tzif.proofs.moments.next_of.Goals as goal

pub returns-clause-end : goal.returns-clause-end
returns-clause-end c later =
    let fits : FitsSigned w64 c.sooner.result = search rules in
    let fits_2 : FitsSigned w64 c.sooner-2.result = search rules in
    let fits_end : FitsSigned w64 c.args.moments.now.end = search rules in
    let second = to_z-of_z c.ranges.second in
    let cast = to_z-of_z fits in
    let cast_2 = to_z-of_z fits_2 in
    let cast_end = to_z-of_z fits_end in
    let m = c.sooner.ensures.moment (omega (arith, ints, later, second, cast_end)) in
    let n = c.sooner-2.ensures.next in
    omega (arith, ints, m, n, cast, cast_2, cast_end)
