use Rattle.std.proofs.Common.{arith, ◌≡◌, pos, ◌+ℤ◌, to_z, of_z, w32, unsigned_abs}
use Rattle.basics.specs.{SignedLaws.{signed_casts}, YearLaws.{day-cycle}, MonthLaws.{days_through-two}}
use Rattle.basics.proofs.days.first_day_of.Goals as goal

pub returns : goal.returns
returns c =
    let n = unsigned_abs (to_z w32 (of_z w32 (to_z w32 (of_z w32 c.args.year) +ℤ pos 11999))) in
    let here : c.args.year +ℤ pos 11999 ≡ pos n = omega (arith, signed_casts) in
    record { value = omega (arith, signed_casts, day-cycle c.args.year 1 1 n here, days_through-two c.args.year) }
