-- Numbers by their sign and size.
use Rattle.std.proofs.{Common.{◌≡◌, refl, Bool, true, false, if◌then◌else◌, nat_eq, int_lt, ℤ, pos, negsuc, unsigned_abs, arith}, lemmas.Bool.Decides.{nat_tests}}
use Rattle.civil_base.specs.Offsets.{signed_by}

pub signed_by-size : (z : ℤ) → signed_by (int_lt z (pos 0)) (unsigned_abs z) ≡ z
signed_by-size (pos n) = grind (arith, nat_tests)
signed_by-size (negsuc n) = refl

-- whether the sign is a minus
pub minus_is : (negative : Bool) → nat_eq (if negative then 45 else 43) 45 ≡ negative
minus_is true = refl
minus_is false = refl
