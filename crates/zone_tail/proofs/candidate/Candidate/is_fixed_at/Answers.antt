use Rattle.std.{proofs.Common.{w64, FitsSigned, to_z-of_z, rules}, specs.Bool.{IsTrue}}
use Rattle.zone_tail.proofs.CandidateLemmas.{fixed_at}
use Rattle.zone_tail.proofs.candidate.Candidate.is_fixed_at.Goals as goal

pub returns-in-Fixed : goal.returns-in-Fixed
returns-in-Fixed c =
    let fits : FitsSigned w64 c.in-Fixed.fixed = search rules in
    fixed_at (IsTrue c.is_same.result) c.in-Fixed.fixed c.args.total (rw (to_z-of_z fits, to_z-of_z c.ranges.total) at c.is_same.ensures)
    c.args.self.now c.in-Fixed.is
