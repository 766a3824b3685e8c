-- Every second is that of an instant, and some second is before two others.
use Rattle.std.proofs.{Common.{◌≡◌, ℤ, pos, ◌-ℤ◌, ◌*ℤ◌, ◌<ℤ◌, arith}, lemmas.Int.{ints, by_lt_z}}
use Rattle.civil_base.specs.Instants.{seconds_of}
use Rattle.tz_lookup.specs.SecondLaws.{IsSecond, second_is, one_second}

whole : (s : ℤ) → IsSecond (pos 1000000000 *ℤ s) s
whole s = record { low = omega (arith, ints); high = omega (arith, ints) }

pub seconds_of-whole : (s : ℤ) → seconds_of (pos 1000000000 *ℤ s) ≡ s
seconds_of-whole s = one_second (pos 1000000000 *ℤ s) _ _ (second_is _) (whole s)

pub before_both : (a b : ℤ) → (s : ℤ) × (s <ℤ a) × (s <ℤ b)
before_both a b = by_lt_z {P = (s : ℤ) × (s <ℤ a) × (s <ℤ b)} a b
    (λ lt. (a -ℤ pos 1, omega (arith, ints), omega (arith, ints)))
    (λ le. (b -ℤ pos 1, omega (arith, ints), omega (arith, ints)))
