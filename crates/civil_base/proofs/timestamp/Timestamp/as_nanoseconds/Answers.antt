use Rattle.std.proofs.Common.{rules, to_z-of_z, FitsSigned}
use mir.Syntax.{w128}
use Rattle.civil_base.specs.RangeLaws.{years_near}
use Rattle.civil_base.proofs.timestamp.Timestamp.as_nanoseconds.Goals as goal

pub returns-clause-bound : goal.returns-clause-bound
returns-clause-bound c =
    let fits : FitsSigned w128 c.nanos.result = search rules in
    rw (to_z-of_z fits) (years_near c.nanos.result c.nanos.ensures.bound)
