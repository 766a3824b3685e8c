use Rattle.std.proofs.Common.{arith}
use Rattle.basics.specs.SignedLaws.{signed_casts}
use Rattle.civil_base.specs.RangeLaws.{offset_size}
use Rattle.civil_base.proofs.utc_offset.UtcOffset.whole_hours.Goals as goal

pub overflow_cast-result : goal.overflow_cast-result
overflow_cast-result c =
    omega (arith, signed_casts, offset_size c.self.inside.seconds c.self.invariant)

pub returns : goal.returns
returns c =
    omega (arith, signed_casts, offset_size c.self.inside.seconds c.self.invariant)
