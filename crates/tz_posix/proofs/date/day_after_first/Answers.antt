use Rattle.std.proofs.Common.{arith, to_z-of_z, ◌≡◌, ◌+ℤ◌, pos, w32, to_z, of_z}
use Rattle.basics.specs.{Days.{day}, SignedLaws.{signed_casts}}
use Rattle.tz_posix.specs.DayLaws.{counted_day-inside}
use Rattle.tz_posix.proofs.date.day_after_first.Goals as goal

sum_is : (c : goal.After-from) → to_z w32 (of_z w32 (to_z w32 (of_z w32 c.day_number.result) +ℤ to_z w32 (of_z w32 c.from.result)))
    ≡ day c.args.year 1 1 +ℤ pos c.args.n
sum_is c =
    let first = rw (to_z-of_z c.ranges.year) at c.day_number.ensures.value in
    omega (arith, signed_casts, c.day_number.ensures.least, c.day_number.ensures.greatest, first)

pub returns-clause-inside : goal.returns-clause-inside
returns-clause-inside c = λ year few. rw (sum_is c) (counted_day-inside c.args.year c.args.n year few)
