use Rattle.std.proofs.Common.{◌+◌, ◌-◌, ◌/◌, arith}
use Rattle.sefunjaro.{specs.GapPlaces.{nth_offset}, proofs.GapLemmas.{falls_short}}
use Rattle.sefunjaro.proofs.gap.skipped.Goals as goal

pub loop-high-preserved : goal.loop-high-preserved
loop-high-preserved g c =
    let low = c.loop-high.low in let high = c.loop-high.high in let invariant = c.loop-high.invariant in record {
      order = omega (arith, c.loop-high-test.true, invariant.order);
      last = omega (arith, invariant.order, invariant.last);
      more = invariant.more;
      less = falls_short (g.T.TimeZone.total_at c.args.zone.now) c.args.local.now (nth_offset (low + (high - low) / 2)) c.requires (c.if-is_ahead.ensures);
    }
