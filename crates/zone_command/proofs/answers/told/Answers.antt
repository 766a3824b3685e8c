use Rattle.std.proofs.Common.{subst}
use Rattle.zone_command.specs.Answers.{IsReply}
use Rattle.zone_command.proofs.answers.told.Goals as goal

pub returns-in-Err : goal.returns-in-Err
returns-in-Err c = λ due reply. c.fault_of.ensures due (subst (λ r. IsReply due r) c.in-Err.is reply)
