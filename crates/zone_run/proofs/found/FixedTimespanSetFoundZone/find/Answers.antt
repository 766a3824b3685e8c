use Rattle.std.specs.FinMap.{get}
use Rattle.zone_table.specs.Resolved.{resolved_in}
use Rattle.zone_run.specs.FoundLaws.{compiled_found, compiled_refused}
use Rattle.zone_run.proofs.found.FixedTimespanSetFoundZone.find.Goals as goal

pub returns-in-Ok-clause-spans : goal.returns-in-Ok-clause-spans
returns-in-Ok-clause-spans c =
    let table = c.args.table.now in
    compiled_found (λ set. set) (get table.rulesets) (resolved_in table c.args.name.now) c.in-Ok.set c.in-Ok.ensures.ok.1 c.in-Ok.ensures.accepted.range

pub returns-in-Err-clause-err : goal.returns-in-Err-clause-err
returns-in-Err-clause-err c =
    let table = c.args.table.now in
    compiled_refused (λ set. set) (get table.rulesets) (resolved_in table c.args.name.now) c.in-Err.fault c.in-Err.ensures.err
