use Rattle.std.proofs.Common.{arith}
use Rattle.basics.specs.SignedLaws.{signed_casts}
use Rattle.civil_base.specs.DayRangeLaws.{day-counted}
use Rattle.civil_base.proofs.date.Date.day.Goals as goal

pub date_of-requires-clause-first : goal.date_of-requires-clause-first
date_of-requires-clause-first c = omega (arith, signed_casts, day-counted c.self.inside.day_number c.self.invariant)

pub date_of-requires-clause-last : goal.date_of-requires-clause-last
date_of-requires-clause-last c = omega (arith, signed_casts, day-counted c.self.inside.day_number c.self.invariant)
