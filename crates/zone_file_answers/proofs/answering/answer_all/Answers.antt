use Rattle.std.proofs.Common.{ap, arith, length}
use Rattle.zone_file_answers.proofs.answering.answer_all.Goals as goal

pub overflow_add-number : goal.overflow_add-number
overflow_add-number c = omega (arith, c.new-line-items.ensures.few, c.loop-line.invariant.number, ap length c.in-Some.ensures.steps)
