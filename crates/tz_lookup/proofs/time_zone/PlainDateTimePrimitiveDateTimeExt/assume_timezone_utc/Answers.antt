use Rattle.std.proofs.Common.{ap, ◌∙◌}
use Rattle.tz_lookup.specs.UtcLaws.{at_utc}
use Rattle.tz_lookup.proofs.time_zone.PlainDateTimePrimitiveDateTimeExt.assume_timezone_utc.Goals as goal

pub returns-clause-offset : goal.returns-clause-offset
returns-clause-offset g c =
    let total = g.T.TimeZone.total_at c.args.tz.now in
    c.assume_offset.ensures.offset ∙ c.to_utc.ensures ∙ c.get_offset_utc-offset.ensures.total
    ∙ ap total (at_utc c.assume_utc.result c.args.self.now c.assume_utc.ensures.local c.assume_utc.ensures.offset)
