use Rattle.std.{proofs.Common.{Ok, ap, sym, ◌∙◌}, specs.FinMap.{get}}
use Rattle.tz_lookup.specs.{Compiles.{compiled_in}, Sets.{schedule_of}, declared.set.FixedTimespanSet.{FixedTimespanSet}}
use Rattle.zone_run.specs.FoundLaws.{compiled_found, compiled_refused}
use Rattle.zone_spans.specs.Schedules.{total_at, totals_of}
use Rattle.zone_table.specs.Resolved.{resolved_in}
use Rattle.zone_answers.specs.{Found.{found_in_table, to_2099}, FoundLaws.{fault_told_so}}
use Rattle.zone_answers.proofs.to_2099.CompactSetOpenedZone.open.Goals as goal

pub returns-in_ok-compact-in-Ok-clause-ok : goal.returns-in_ok-compact-in-Ok-clause-ok
unfolding found_in_table totals_of
returns-in_ok-compact-in-Ok-clause-ok c =
    let table = c.args.table.now in
    compiled_found (λ set. total_at (totals_of set)) (get table.rulesets) (resolved_in table c.args.name.now) c.in-Ok.set c.in-Ok.ensures.ok.1
    c.in-Ok.ensures.accepted.range
    ∙ ap (λ (set : FixedTimespanSet). Ok (total_at (schedule_of set))) (sym c.in_ok-compact-in-Ok.ensures)

pub returns-in-Err-clause-err : goal.returns-in-Err-clause-err
unfolding found_in_table
returns-in-Err-clause-err c =
    let table = c.args.table.now in
    fault_told_so (found_in_table to_2099 table c.args.name.now) (compiled_in table c.args.name.now) c.args.number c.in-Err.fault _
    (compiled_refused (λ set. total_at (totals_of set)) (get table.rulesets) (resolved_in table c.args.name.now) c.in-Err.fault c.in-Err.ensures.err)
    c.in-Err.ensures.err c.of_zone.ensures
