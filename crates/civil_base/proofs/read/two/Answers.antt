use Rattle.std.proofs.Common.{arith, ◌/◌, ◌%◌}
use Rattle.civil_base.proofs.read.two.Goals as goal

pub returns-clause-value : goal.returns-clause-value
returns-clause-value c = λ n small t o.
    let front = c.tens_value.ensures.digit (n / 10 % 10) (omega arith) t in
    let back = c.ones_value.ensures.digit (n / 1 % 10) (omega arith) o in
    omega (arith, front, back)
