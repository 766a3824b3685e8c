use Rattle.std.proofs.Common.{arith, ◌≡◌, pos, neg_ℤ, to_z, of_z, w32}
use Rattle.basics.specs.SignedLaws.{signed_casts}
use Rattle.civil_base.{specs.DayRangeLaws.{counted-first, counted-last, day-ends, day-counted}, proofs.OrdinalLemmas.{kept-day}}
use Rattle.civil_base.proofs.date.Date.to_calendar_date.Goals as goal

pub date_of-date-requires-clause-first : goal.date_of-date-requires-clause-first
date_of-date-requires-clause-first c = omega (arith, signed_casts, day-counted c.self.inside.day_number c.self.invariant)

pub date_of-date-requires-clause-last : goal.date_of-date-requires-clause-last
date_of-date-requires-clause-last c = omega (arith, signed_casts, day-counted c.self.inside.day_number c.self.invariant)

pub returns-clause-range : goal.returns-clause-range
returns-clause-range c =
    let number = kept-day c.self.inside.day_number c.self.invariant in
    let ends = day-ends c.self.inside.day_number c.self.invariant in
    let years = c.date_of-date.ensures.between (neg_ℤ (pos 9999)) (pos 9999) counted-first counted-last (rw number ends.0)
    (rw number ends.1) in
    let year : to_z w32 (of_z w32 c.date_of-date.result.year) ≡ c.date_of-date.result.year = omega (arith, signed_casts) in (
      record { first = omega (arith, signed_casts); last = omega (arith, signed_casts) },
      rw (year, c.month_with.ensures) c.date_of-date.ensures.date,
    )
