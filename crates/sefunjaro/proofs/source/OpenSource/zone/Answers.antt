use Rattle.sefunjaro.{specs.Sources.{table_in}, proofs.ZoneLemmas.{as_compiled}}
use Rattle.sefunjaro.proofs.source.OpenSource.zone.Goals as goal

pub returns-in-Ok-clause-as_compiled : goal.returns-in-Ok-clause-as_compiled
returns-in-Ok-clause-as_compiled c =
    let made = c.in_ok-of_set-in-Ok.ensures in
    as_compiled c.shows_as_today.ensures (table_in c.args.self.now) c.args.name.now c.in_ok-set.set c.in-Ok.for_ever c.in_ok-of_set-in-Ok.field-0
    made.set made.ever made.recurs c.in_ok-set.ensures.ok.1 c.in-Ok.ensures.ok
