use Rattle.std.proofs.Common.{◌∙◌}
use Rattle.tz_ever.proofs.AnswerLemmas.{gives_turned, total_turned}
use Rattle.tz_ever.proofs.zone_tz.ZoneTzTimeZone.get_offset_utc.Goals as goal

pub returns-clause-total : goal.returns-clause-total
returns-clause-total c =
    let zone = c.args.self.now in
    c.get_offset_utc.ensures.total
    ∙ total_turned zone.recurrence _ c.args.date_time.now c.turned.result zone.repeats c.turned.ensures.range c.turned.ensures.local c.turned.ensures.offset

pub returns-clause-name : goal.returns-clause-name
returns-clause-name c =
    let zone = c.args.self.now in
    gives_turned zone.recurrence _ c.args.date_time.now c.turned.result c.get_offset_utc.result zone.repeats c.turned.ensures.range
    c.turned.ensures.local c.turned.ensures.offset c.get_offset_utc.ensures.name
