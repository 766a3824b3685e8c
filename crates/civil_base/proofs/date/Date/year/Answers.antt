use Rattle.std.proofs.Common.{arith, pos, neg_ℤ}
use Rattle.basics.specs.SignedLaws.{signed_casts}
use Rattle.civil_base.{specs.DayRangeLaws.{counted-first, counted-last, day-ends, day-counted}, proofs.OrdinalLemmas.{kept-day}}
use Rattle.civil_base.proofs.date.Date.year.Goals as goal

pub date_of-requires-clause-first : goal.date_of-requires-clause-first
date_of-requires-clause-first c = omega (arith, signed_casts, day-counted c.self.inside.day_number c.self.invariant)

pub date_of-requires-clause-last : goal.date_of-requires-clause-last
date_of-requires-clause-last c = omega (arith, signed_casts, day-counted c.self.inside.day_number c.self.invariant)

pub returns-clause-bound : goal.returns-clause-bound
returns-clause-bound c =
    let number = kept-day c.self.inside.day_number c.self.invariant in
    let ends = day-ends c.self.inside.day_number c.self.invariant in
    let years = c.date_of.ensures.between (neg_ℤ (pos 9999)) (pos 9999) counted-first counted-last (rw number ends.0) (rw number ends.1) in
    record { first = omega (arith, signed_casts); last = omega (arith, signed_casts) }
