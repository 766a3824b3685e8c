use Rattle.std.proofs.Common.{w64, to_z, of_z, to_z-of_z, arith}
use Rattle.tz_lookup.specs.Sets.{schedule_of}
use Rattle.zone_tail.{specs.Agreement.{IsWalked}, proofs.StepLemmas.{walked_more}}
use Rattle.zone_tail.proofs.walk.walk.Goals as goal

pub spans-preserved : goal.spans-preserved
spans-preserved g c = record {
  within = omega arith;
  later = walked_more c.args.candidate.now (schedule_of (g.S.SpanTable.seen c.args.set.now)) (to_z w64 (of_z w64 c.args.last)) c.requires.accepted.times c.spans.from (omega arith) (omega arith) (c.goes_on.ensures.0 c.if-not-goes_on.false) c.spans.invariant.later;
}

pub returns : goal.returns
returns g c =
    let walked : IsWalked c.args.candidate.now (schedule_of (g.S.SpanTable.seen c.args.set.now)) (to_z w64 (of_z w64 c.args.last)) c.spans.from = record {
      within = omega arith;
      later = c.spans.invariant.later;
      stops = λ k e. absurd (omega arith);
    } in
    rw (to_z-of_z c.ranges.last) at walked
