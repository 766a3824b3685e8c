use Rattle.std.proofs.Common.{Ok, ap, ◌∙◌}
use Rattle.tz_ever.specs.{RecurrenceLaws.{later_total}, ZoneShown.{recurrence_of, zone_set_of}}
use Rattle.zone_answers.specs.Found.{found_in_table}
use Rattle.zone_command.proofs.EverLemmas.{totals_are, ever_refused}
use Rattle.zone_command.proofs.ever_zone.EverZoneOpenedZone.open.Goals as goal

pub returns-in-Ok-clause-ok : goal.returns-in-Ok-clause-ok
unfolding found_in_table
returns-in-Ok-clause-ok c =
    totals_are c.args.table.now c.args.name.now _ c.in-Ok.ensures.ok c.in-Ok.set.accepted.range
    ∙ ap Ok (later_total (recurrence_of c.in-Ok.set) (zone_set_of c.in-Ok.set) c.in-Ok.ensures.goes)

pub returns-in-Err-clause-err : goal.returns-in-Err-clause-err
unfolding found_in_table
returns-in-Err-clause-err c =
    ever_refused c.args.table.now c.args.name.now c.args.number c.in-Err.fault _ c.in-Err.ensures.err (rw c.find_fault.ensures at c.refused.ensures)
