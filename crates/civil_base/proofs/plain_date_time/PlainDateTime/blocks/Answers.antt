use Rattle.std.proofs.Common.{arith}
use Rattle.basics.specs.SignedLaws.{signed_casts}
use Rattle.civil_base.specs.RangeLaws.{years_begin, years_end}
use Rattle.civil_base.proofs.plain_date_time.PlainDateTime.blocks.Goals as goal

pub overflow_sub-nanos : goal.overflow_sub-nanos
overflow_sub-nanos c =
    omega (arith, signed_casts, years_begin c.self.inside.nanos c.self.invariant, years_end c.self.inside.nanos c.self.invariant)

pub overflow_cast-nanos : goal.overflow_cast-nanos
overflow_cast-nanos c =
    omega (arith, signed_casts, years_begin c.self.inside.nanos c.self.invariant, years_end c.self.inside.nanos c.self.invariant)

pub overflow_cast-result : goal.overflow_cast-result
overflow_cast-result c =
    omega (arith, signed_casts, years_begin c.self.inside.nanos c.self.invariant, years_end c.self.inside.nanos c.self.invariant)

pub returns-clause-sum : goal.returns-clause-sum
returns-clause-sum c =
    omega (arith, signed_casts, years_begin c.self.inside.nanos c.self.invariant, years_end c.self.inside.nanos c.self.invariant)
