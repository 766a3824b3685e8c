use Rattle.std.proofs.Common.{arith}
use Rattle.zone_answers.proofs.RequestLemmas.{front_step}
use Rattle.zone_answers.proofs.request.front_of.Goals as goal

pub overflow_mul-front : goal.overflow_mul-front
overflow_mul-front c =
    let next = front_step c.args.digits.now c.loop-i.i c.loop-i.front c.requires.digits (omega arith) (omega arith) c.loop-i.invariant in
    record { fits = omega (arith, next.bound) }

pub overflow_add-front : goal.overflow_add-front
overflow_add-front c =
    let next = front_step c.args.digits.now c.loop-i.i c.loop-i.front c.requires.digits (omega arith) (omega arith) c.loop-i.invariant in
    record { fits = omega (arith, next.bound) }

pub loop-i-preserved : goal.loop-i-preserved
loop-i-preserved c =
    let next = front_step c.args.digits.now c.loop-i.i c.loop-i.front c.requires.digits (omega arith) (omega arith) c.loop-i.invariant in
    omega (arith, next.value)
