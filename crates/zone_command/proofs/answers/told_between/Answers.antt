use Rattle.std.proofs.Common.{ℕ, List, Err, subst}
use Rattle.zone_command.specs.Answers.{IsAnswer, IsReply, told}
use Rattle.zone_command.proofs.answers.told_between.Goals as goal

pub returns-in_ok-name-in-Err : goal.returns-in_ok-name-in-Err
returns-in_ok-name-in-Err g c = λ due reply.
    let P : List ℕ → Type 0 = λ name. IsAnswer (told name due) (Err c.fault_of.result) in
    subst P c.in_ok-name-in-Err.ensures (c.fault_of.ensures due (subst (λ r. IsReply due r) c.in-Err.is reply))
