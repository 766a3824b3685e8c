use Rattle.std.proofs.Common.{◌≡◌, arith, pos, ◌-ℤ◌, ◌+ℤ◌, ◌*ℤ◌, to_z, of_z, w32, unsigned_abs, ap, ◌∙◌, ◌%◌}
use Rattle.basics.specs.SignedLaws.{signed, signed_casts, natural}
use Rattle.civil_base.specs.{Clock.{nanos_per_day}, Julian.{day_of_julian}}
use Rattle.tz_ever.{specs.Seam.{seam_day}, proofs.TurnLemmas.{day_turned}}
use Rattle.tz_ever.proofs.zone_tz.julian_in_cycle.Goals as goal

pub returns-clause-value : goal.returns-clause-value
returns-clause-value c =
    let d = day_of_julian c.args.day in
    let low = c.requires.first in
    let a = unsigned_abs ((d +ℤ pos 4529007) -ℤ seam_day) in
    let is : (d +ℤ pos 4529007) -ℤ seam_day ≡ pos a = natural ((d +ℤ pos 4529007) -ℤ seam_day) (omega (arith, signed, low)) in
    let left : to_z w32 (of_z w32 (to_z w32 (of_z w32 (to_z w32 (of_z w32 c.args.day) -ℤ pos 2488800)) +ℤ pos 4529007)) ≡ (d +ℤ pos 4529007) -ℤ seam_day =
    omega (arith, signed_casts, low) in
    let rest : c.day_of_cycle.result ≡ pos (a % 146097) = c.day_of_cycle.ensures ∙ ap (λ z. pos (unsigned_abs z % 146097)) left in
    let day : day_of_julian (to_z w32 (of_z w32 (pos 2488800 +ℤ to_z w32 (of_z w32 c.day_of_cycle.result)))) ≡ seam_day +ℤ pos (a % 146097) =
    omega (arith, signed_casts, rest) in
    ap (λ z. z *ℤ pos nanos_per_day) day ∙ day_turned d a is
