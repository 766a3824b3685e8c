use Rattle.std.proofs.Common.{arith, pos, neg_ℤ, to_z, of_z, to_z-of_z, w32, ap}
use Rattle.basics.specs.{SignedLaws.{signed_casts}, Days.{IsDate, days_in_month}}
use Rattle.civil_base.specs.DayRangeLaws.{counted-first, counted-last, day-first, day-last}
use Rattle.civil_base.proofs.date.Date.from_calendar_date.Goals as goal

pub invariant_of-result : goal.invariant_of-result
invariant_of-result c =
    let year = to_z-of_z c.ranges.year in
    let month = c.from.ensures.0 in
    let length = c.length.ensures.value in
    let same = ap (λ y. days_in_month y c.from.result) year in
    let through = ap (λ m. days_in_month (to_z w32 (of_z w32 c.args.year)) m) month in
    let date : IsDate c.args.year c.from.result c.args.day = record {
      first_month = omega arith;
      last_month = omega arith;
      first_day = omega arith;
      last_day = omega arith;
    } in
    let inside = c.day_number.ensures.between (neg_ℤ (pos 9999)) (pos 9999) counted-first counted-last (omega (arith, signed_casts))
    (omega (arith, signed_casts)) (rw year date) in
    record { first = omega (arith, signed_casts, inside.0, day-first); last = omega (arith, signed_casts, inside.1, day-last) }
