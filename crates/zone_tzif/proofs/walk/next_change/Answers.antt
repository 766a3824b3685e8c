use Rattle.std.proofs.Common.{FitsSigned, w64, rules, to_z-of_z}
use Rattle.zone_tzif.proofs.walk.next_change.Goals as goal

pub returns-clause-same : goal.returns-clause-same
returns-clause-same c t begun before =
    let fits : FitsSigned w64 c.next_change.result = search rules in
    (rw (to_z-of_z c.ranges.second) at c.next_change.ensures.same) t begun (rw (to_z-of_z fits) at before)
