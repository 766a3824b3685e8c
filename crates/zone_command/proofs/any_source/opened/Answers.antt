use Rattle.sefunjaro.specs.{Sources.{table_in}, Zones.{ever_in}}
use Rattle.zone_command.proofs.ViewLemmas.{ever_is, found_as, told_as}
use Rattle.zone_command.proofs.any_source.opened.Goals as goal

pub returns-in-Ok-clause-ok : goal.returns-in-Ok-clause-ok
returns-in-Ok-clause-ok c =
    found_as (table_in c.args.source.now) c.args.name.now c.in-Ok.zone c.in-Ok.ensures.ok c.in-Ok.ensures.accepted c.in-Ok.ensures.goes_on
    c.in-Ok.ensures.recurs c.in-Ok.ensures.origin c.accepted_for_ever.ensures

pub returns-in-Ok-clause-ever : goal.returns-in-Ok-clause-ever
returns-in-Ok-clause-ever c =
    ever_is (table_in c.args.source.now) c.args.name.now (ever_in c.in-Ok.zone) c.in-Ok.ensures.goes_on c.accepted_for_ever.ensures

pub returns-in-Err-clause-err : goal.returns-in-Err-clause-err
returns-in-Err-clause-err c = told_as (table_in c.args.source.now) c.args.name.now c.in-Err.fault c.in-Err.ensures.err
