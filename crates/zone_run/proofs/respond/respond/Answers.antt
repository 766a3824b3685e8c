use Rattle.zone_run.{proofs.RespondLemmas.{source_refuses, zone_refuses, program_refuses, program_answers}, specs.Responses.{cause_told}}
use Rattle.zone_run.proofs.respond.respond.Goals as goal

pub returns-in-Err : goal.returns-in-Err
returns-in-Err g c = source_refuses _ _ _ c.args.source.now _ c.in-Err.error c.in-Err.ensures.err c.in_ok-source_fault_bytes-in-Err.ensures

pub returns-in-Err-find : goal.returns-in-Err-find
returns-in-Err-find g c =
    zone_refuses _ _ _ c.args.source.now _ c.in-Ok.table c.in-Ok.ensures.ok c.in-Ok.ensures.table (cause_told c.in-Err-find.fault)
    c.in-Err-find.ensures.err (rw c.label.ensures at c.in_ok-zone_fault-in-Err-find.ensures)

pub returns-in-Ok-answer : goal.returns-in-Ok-answer
returns-in-Ok-answer g c =
    program_answers _ _ _ c.args.source.now _ c.in-Ok.table c.in-Ok.ensures.ok c.in-Ok.ensures.table (g.P.Zone.FoundZone.seen c.in-Ok-find.zone)
    c.in-Ok-find.ensures.spans
    c.in-Ok-find.ensures.name c.in-Ok-answer.ensures.0 c.in-Ok-answer.ensures.1

pub returns-in-Err-Cause : goal.returns-in-Err-Cause
returns-in-Err-Cause g c =
    program_refuses _ _ _ c.args.source.now _ c.in-Ok.table c.in-Ok.ensures.ok c.in-Ok.ensures.table (g.P.Zone.FoundZone.seen c.in-Ok-find.zone)
    c.in-Ok-find.ensures.spans
    c.in-Ok-find.ensures.name c.in-Err-Cause.why.now (rw c.in-Err-Cause.field-0-is at c.in-Err-Cause.ensures)
    (rw c.label-in-Err-Cause.ensures at c.in_ok-cause_line-in-Err-Cause.ensures)
