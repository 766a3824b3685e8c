use Rattle.std.proofs.Common.{arith}
use Rattle.zone_answers.proofs.RequestLemmas.{part_below, step}
use Rattle.zone_answers.proofs.request.size_of.Goals as goal

pub overflow_mul-size : goal.overflow_mul-size
overflow_mul-size c =
    let next = step c.args.digits.now c.loop-i.i c.loop-i.size c.requires (omega arith) c.loop-i.invariant in
    record { fits = omega (arith, next.bound) }

pub overflow_add-size : goal.overflow_add-size
overflow_add-size c =
    let next = step c.args.digits.now c.loop-i.i c.loop-i.size c.requires (omega arith) c.loop-i.invariant in
    record { fits = omega (arith, next.bound) }

pub loop-i-preserved : goal.loop-i-preserved
loop-i-preserved c =
    let next = step c.args.digits.now c.loop-i.i c.loop-i.size c.requires (omega arith) c.loop-i.invariant in
    omega (arith, next.value)

pub returns-clause-bound : goal.returns-clause-bound
returns-clause-bound c =
    omega (arith, part_below c.args.digits.now c.loop-i.i c.requires, c.loop-i.invariant)
