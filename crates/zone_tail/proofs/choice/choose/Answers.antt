use Rattle.std.proofs.Common.{to_z-of_z}
use Rattle.tz_lookup.specs.Sets.{schedule_of}
use Rattle.zone_tail.proofs.ChoiceLemmas.{is_choice}
use Rattle.zone_tail.proofs.choice.choose.Goals as goal

pub returns : goal.returns
returns g c =
    let r = c.best-index.result in
    let best = rw (to_z-of_z c.ranges.last) at c.best-index.ensures in
    let some = c.requires.agree.1 r.0 best.within in
    is_choice c.args.candidates.now (schedule_of (g.S.SpanTable.seen c.args.set.now)) c.args.last c.requires.accepted.times r.0 r.1 best c.requires.agree.0 some.0 some.1
