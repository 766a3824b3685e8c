use Rattle.std.proofs.Common.{arith}
use Rattle.basics.specs.{Weekdays.{weekday_of}, SignedLaws.{signed_casts}}
use Rattle.basics.proofs.days.weekday.Goals as goal

pub returns-clause-value : goal.returns-clause-value
unfolding weekday_of
returns-clause-value c = omega (arith, signed_casts)
