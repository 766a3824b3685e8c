use Rattle.std.{proofs.Common.{◌≡◌, ◌+ℤ◌, pos, to_z, of_z, w32, arith, subst}, specs.Prelude.{IsSome}}
use Rattle.basics.specs.SignedLaws.{signed_casts}
use Rattle.civil_base.specs.{Julian.{day_of_julian}, Ranges.{IsDay}}
use Rattle.zone_alarm.proofs.daily.day_after.Goals as goal

pub returns-in-Ok-clause-has : goal.returns-in-Ok-clause-has
returns-in-Ok-clause-has c =
    let fits = c.in-Ok.ensures in
    let day : day_of_julian (to_z w32 (of_z w32 c.in-Ok.julian_day)) ≡ c.args.first +ℤ pos c.args.days =
    omega (arith, signed_casts, fits.0, fits.1, c.from.ensures, c.from-2.ensures, c.to_julian_day.ensures) in
    subst (λ k. (IsSome c.date_of_julian.result → IsDay k) × (IsDay k → IsSome c.date_of_julian.result)) day c.date_of_julian.ensures.has
