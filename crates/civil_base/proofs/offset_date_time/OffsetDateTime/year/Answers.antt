use Rattle.std.proofs.Common.{arith}
use Rattle.basics.specs.SignedLaws.{signed_casts}
use Rattle.civil_base.specs.DateTimes.{local_of}
use Rattle.civil_base.proofs.offset_date_time.OffsetDateTime.year.Goals as goal

pub returns-clause-value : goal.returns-clause-value
unfolding local_of
returns-clause-value c = omega (arith, signed_casts)
