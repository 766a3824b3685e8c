use Rattle.std.proofs.Common.{arith}
use Rattle.basics.specs.SignedLaws.{signed_casts}
use Rattle.civil_base.specs.Instants.{seconds_of}
use Rattle.civil_base.proofs.offset_date_time.seconds_of.Goals as goal

pub returns-clause-value : goal.returns-clause-value
unfolding seconds_of
returns-clause-value c = omega (arith, signed_casts)
