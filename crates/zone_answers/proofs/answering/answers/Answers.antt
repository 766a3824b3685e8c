use Rattle.std.proofs.Common.{subst}
use Rattle.zone_answers.{specs.Faults.{fault}, specs.Told.{TellsReading}, proofs.AnsweringLemmas.{never_ends}}
use Rattle.zone_answers.proofs.answering.answers.Goals as goal

pub unreachable-requires : goal.unreachable-requires
unreachable-requires c =
    never_ends c.args.source.now c.args.requests.now c.in-Err-RulesEnd.field-0-0
    (subst (TellsReading (fault c.args.source.now c.args.requests.now)) c.in-Err-RulesEnd.field-0-is c.in-Err-RulesEnd.ensures.err)
