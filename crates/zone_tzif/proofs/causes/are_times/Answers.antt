use Rattle.std.proofs.Common.{refl}
use Rattle.zone_tzif.proofs.CauseLemmas.{times_are}
use Rattle.zone_tzif.proofs.causes.are_times.Goals as goal

pub returns : goal.returns
returns g c =
    times_are (g.S.SpanTable.seen c.args.set.now) c.do_rise-rises.result _ c.entry_count-few.result c.do_rise-rises.ensures c.entry_count-few.ensures.count refl
