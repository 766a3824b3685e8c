use Rattle.std.proofs.{Common.{arith}, lemmas.Grind.{common_steps}}
use Rattle.zone_outside.proofs.Loops.{consumed}
use Rattle.zone_outside.proofs.memory.copy_front.Goals as goal

pub returns-clause-bytes : goal.returns-clause-bytes
returns-clause-bytes c =
    consumed c.args.from.now c.args.into.now c.copy_from_slice.new.self c.min-count.result (grind (arith, common_steps))
    (grind (arith, common_steps)) (λ z. grind (arith, common_steps))
