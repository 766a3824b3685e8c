use Rattle.civil_base.specs.DateTimes.{local_of}
use Rattle.tz_lookup.specs.{CompactZones.{compact_of}, AnswerLaws.{instants_of_offsets}}
use Rattle.tz_ever.{specs.Recurrences.{zone_total}, proofs.AnswerLemmas.{names_turned, totals_turned}}
use Rattle.tz_ever.proofs.zone_tz.ZoneTzTimeZone.get_offset_local.Goals as goal

pub returns-clause-totals : goal.returns-clause-totals
returns-clause-totals c =
    let zone = c.args.self.now in
    totals_turned zone.recurrence (compact_of zone.zone) (local_of c.args.date_time.now) _ _ zone.repeats c.turned.ensures.local
    c.get_offset_local.ensures.totals

pub returns-clause-names : goal.returns-clause-names
returns-clause-names c =
    let zone = c.args.self.now in
    names_turned zone.recurrence (compact_of zone.zone) (local_of c.args.date_time.now) _ c.get_offset_local.result zone.repeats zone.range
    c.turned.ensures.local (returns-clause-totals c) c.get_offset_local.ensures.names

pub returns-clause-exact : goal.returns-clause-exact
returns-clause-exact c = λ orderly.
    let zone = c.args.self.now in
    let x = local_of c.args.date_time.now in
    instants_of_offsets (zone_total zone.recurrence (compact_of zone.zone)) x _ zone.range (zone.two orderly x) (returns-clause-totals c)
