use Rattle.std.proofs.Common.{sym, subst}
use Rattle.tz_lookup.specs.Compiles.{compiled_in, IsZoneFault}
use Rattle.sefunjaro.specs.Sources.{table_in}
use Rattle.sefunjaro_c.{specs.Faults.{zone_due, IsRefused}, specs.Opened.{IsZoneOf}, proofs.FaultLemmas.{held_zone, no_text, zone_refused}}
use Rattle.sefunjaro_c.proofs.sources.zone_of.Goals as goal

pub returns-in_default-clause-err : goal.returns-in_default-clause-err
returns-in_default-clause-err c =
    let table = table_in c.args.source.now in
    subst (IsRefused (zone_due table c.args.name.now)) (sym c.plain_fault.ensures) (no_text table c.args.name.now c.in_default.ensures.none)

pub returns-in-Err-clause-err : goal.returns-in-Err-clause-err
returns-in-Err-clause-err c =
    let table = table_in c.args.source.now in let name = c.args.name.now in let text = c.in-Some.ensures.text in
    subst (IsRefused (zone_due table name)) (sym c.zone_fault.ensures)
    (zone_refused table name c.in-Err.fault text.1 (subst (λ n. IsZoneFault (compiled_in table n) c.in-Err.fault) text.0 c.in-Err.ensures.err))

pub returns-in-Ok-zone-clause-ok : goal.returns-in-Ok-zone-clause-ok
returns-in-Ok-zone-clause-ok c =
    let table = table_in c.args.source.now in let found = c.in-Ok.ensures in
    held_zone (IsZoneOf table c.args.name.now) c.in-Ok.zone c.in-Ok-zone.opened.value
    (subst (λ n. IsZoneOf table n c.in-Ok.zone) c.in-Some.ensures.text.0
    (record { opened = found.ok; accepted = found.accepted; goes_on = found.goes_on; as_compiled = found.as_compiled; origin = found.origin }))
    c.in-Ok-zone.ensures
