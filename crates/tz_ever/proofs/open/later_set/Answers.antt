use Rattle.std.proofs.Common.{sym, subst}
use Rattle.tz_ever.{specs.Opens.{IsEverFault}, specs.declared.open.EverFault.{EverFault}, proofs.OpenLemmas.{found_for_ever, later_due, later_is}}
use Rattle.tz_ever.proofs.open.later_set.Goals as goal

pub later_fault-requires : goal.later_fault-requires
later_fault-requires c =
    later_is c.before_2100.ensures c.as_before.ensures c.shows_over_enough_years.ensures c.args.table.now c.args.name.now c.requires.going
    c.in-Err.fault c.in-Err.ensures.err

pub returns-in-Ok-clause-ok : goal.returns-in-Ok-clause-ok
returns-in-Ok-clause-ok c =
    let is = c.in-Ok.ensures.ok in
    found_for_ever c.shows_for_ever.ensures c.args.table.now c.args.name.now c.in-Ok.set c.requires.going is.0 is.1

pub returns-in-Err-clause-err : goal.returns-in-Err-clause-err
returns-in-Err-clause-err c =
    let table = c.args.table.now in
    let name = c.args.name.now in
    let fault = c.in-Err.fault in
    let is = c.in-Err.ensures.err in
    let later = later_is c.before_2100.ensures c.as_before.ensures c.shows_over_enough_years.ensures table name c.requires.going fault is in
    subst (λ (f : EverFault). IsEverFault table name f) (sym c.later_fault.ensures) (later_due table name c.requires.going fault is later)
