use Rattle.std.proofs.Common.{refl, arith, to_z-of_z, ◌≡◌, ◌<◌, w32, to_z, of_z}
use Rattle.basics.specs.SignedLaws.{signed_casts}
use Rattle.tz_posix.specs.WeekdayLaws.{first_weekday-is}
use Rattle.tz_posix.proofs.date.first_weekday.Goals as goal

pub returns-clause-value : goal.returns-clause-value
returns-clause-value c =
    let small : c.args.weekday_number < 7 = omega arith in
    let start = rw (to_z-of_z c.ranges.year) at c.day_number.ensures.value in
    let number : to_z w32 (of_z w32 c.day_number.result) ≡ c.day_number.result =
    omega (arith, signed_casts, c.day_number.ensures.least, c.day_number.ensures.greatest) in
    let weekday = rw (number, start) at c.weekday.ensures.value in
    rw (first_weekday-is c.args.year c.args.month c.args.weekday_number c.requires.year small, weekday) refl
