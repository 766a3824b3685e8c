use Rattle.std.proofs.Common.{arith}
use Rattle.zone_tzif.proofs.CauseLemmas.{names_end}
use Rattle.zone_tzif.proofs.causes.distinct_names.Goals as goal

pub returns : goal.returns
returns g c =
    names_end (g.S.SpanTable.seen c.args.set.now) c.args.kinds.now c.loop-kind.kind-index c.loop-kind.names.items (omega arith) c.loop-kind.invariant.0
