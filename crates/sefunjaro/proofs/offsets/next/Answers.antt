use Rattle.std.proofs.{Common.{FitsSigned, w64, to_z-of_z, rules, arith}, lemmas.Int.{ints}}
use Rattle.sefunjaro.proofs.offsets.next.Goals as goal

pub returns-then-second-known-clause-here : goal.returns-then-second-known-clause-here
returns-then-second-known-clause-here c =
    let from : FitsSigned w64 c.args.known.from = search rules in
    let until : FitsSigned w64 c.args.known.until = search rules in
    c.requires.known c.args.second (omega (arith, ints, to_z-of_z c.ranges.second, to_z-of_z from, c.if-known-second.true))
    (omega (arith, ints, to_z-of_z c.ranges.second, to_z-of_z until, c.if-second-known.true))
