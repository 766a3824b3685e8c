use Rattle.std.proofs.Common.{ap, ◌∙◌, subst}
use Rattle.tz_lookup.{specs.{Compiles.{compiled_in, IsZoneFault}, Databases.{found_as}}, proofs.DatabaseLemmas.{found_is, bad_schedule, bad_offset}}
use Rattle.tz_lookup.proofs.database.know.Goals as goal

pub returns-in-Ok-clause-ok : goal.returns-in-Ok-clause-ok
returns-in-Ok-clause-ok c =
    ap found_as c.new.ensures
    ∙ found_is c.args.table.now c.args.name.now c.in-Ok.set c.in-Ok.ensures.ok.0 c.in-Ok.ensures.ok.1

pub returns-in_ok-new-in-Err-Schedule-clause-err : goal.returns-in_ok-new-in-Err-Schedule-clause-err
returns-in_ok-new-in-Err-Schedule-clause-err c =
    bad_schedule c.args.table.now c.args.name.now _ c.in-Err-Schedule.fault c.in_ok-new-in-Err-Schedule.ensures
    (subst (IsZoneFault (compiled_in c.args.table.now c.args.name.now)) c.in-Err-Schedule.field-0-is c.in-Err-Schedule.ensures.err)

pub returns-in_ok-new-in-Err-OffsetRange-clause-err : goal.returns-in_ok-new-in-Err-OffsetRange-clause-err
returns-in_ok-new-in-Err-OffsetRange-clause-err c =
    bad_offset c.args.table.now c.args.name.now _ c.in_ok-new-in-Err-OffsetRange.ensures
    (subst (IsZoneFault (compiled_in c.args.table.now c.args.name.now)) c.in-Err-OffsetRange.field-0-is c.in-Err-OffsetRange.ensures.err)
