use Rattle.std.{proofs.Common.{to_z-of_z}, specs.Bool.{IsTrue}}
use Rattle.zone_tail.proofs.CandidateLemmas.{ruled_constant}
use Rattle.zone_tail.proofs.candidate.Candidate.is_constant.Goals as goal

pub returns-in-Ruled : goal.returns-in-Ruled
returns-in-Ruled c =
    ruled_constant (IsTrue c.is_constant.result) c.in-Ruled.rule c.args.low c.args.high c.args.total
    (rw (to_z-of_z c.ranges.low, to_z-of_z c.ranges.high, to_z-of_z c.ranges.total) at c.is_constant.ensures) c.args.self.now c.in-Ruled.is
