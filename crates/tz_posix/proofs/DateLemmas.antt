-- The number of a day, which fits the word that holds it.
use Rattle.std.proofs.Common.{arith, ◌≡◌, ◌≤ℤ◌, ℤ, pos, neg_ℤ, w32, to_z, of_z}
use Rattle.basics.specs.SignedLaws.{signed_casts}

-- a number within those that dates have
pub value_is : (k day : ℤ) → neg_ℤ (pos 4371953) ≤ℤ k → k ≤ℤ pos 2933262 → k ≡ day → to_z w32 (of_z w32 k) ≡ day
value_is k day least greatest is = omega (arith, signed_casts, least, greatest, is)
