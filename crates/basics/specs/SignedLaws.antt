-- Whole numbers of either sign for `omega`, which reads z as `up z - down z`.
use Rattle.std.{proofs.Common.{◌≡◌, ℕ, ◌+◌, ◌*◌, ◌<◌, ◌≤◌, ◌⊎◌, ◌≤ℤ◌, inl, inr, refl, arith, ℤ, pos, negsuc, of_z, unsigned_abs}, specs.Int.{Width, int_div_euclid, int_rem_euclid}}
use borrow.Author.Differences.{up, down, same_out, Apart-out, lt_out, le_out, lt_T, le_T, lt_not, le_not, lt-true, lt-false, le-true, le-false, same_in, below_in, at_most_in, lt_in, le_in, fits_in, fits_out, sum_is_lem, neg_is, product_is, quot_is, rem_is, back_is, small_is, not_negative_out, not_negative_in}

-- the size of a number
pub size_is : (z : ℤ) → unsigned_abs z ≡ up z + down z
size_is (pos n) = omega arith
size_is (negsuc n) = omega arith

-- the bits of a number that is not negative are the number
pub plain_bits : (w : Width) (z : ℤ) → down z ≤ up z → of_z w z + down z ≡ up z
plain_bits w (pos n) h = omega arith
plain_bits w (negsuc n) h = absurd (omega arith)

-- one of the two parts is 0
pub one_sided : (z : ℤ) → (up z ≡ 0) ⊎ (down z ≡ 0)
one_sided (pos n) = inr refl
one_sided (negsuc n) = inl refl

-- a number that is not negative is its size
pub natural : (z : ℤ) → pos 0 ≤ℤ z → z ≡ pos (unsigned_abs z)
natural (pos n) h = refl
natural (negsuc n) h = absurd (omega (arith, le_out (pos 0) (negsuc n) h))

-- division that rounds down leaves a remainder that is not negative
pub floored : (z : ℤ) (k : ℕ) → 0 < k → (up z + down (int_div_euclid z (pos k)) * k ≡ down z + up (int_div_euclid z (pos k)) * k + up
    (int_rem_euclid z (pos k))) × (up (int_rem_euclid z (pos k)) < k) × (down (int_rem_euclid z (pos k)) ≡ 0)
floored (pos n) k h = omega arith
floored (negsuc n) k h = omega arith

-- facts over whole numbers, as `omega (arith, signed)`
pub ruleset signed = (
  same_out,
  Apart-out,
  same_in,
  lt_out,
  below_in,
  le_out,
  at_most_in,
  lt_T,
  lt_in,
  le_T,
  le_in,
  lt_not,
  le_not,
  lt-true,
  lt-false,
  le-true,
  le-false,
  sum_is_lem,
  neg_is,
  product_is,
  size_is,
  floored,
)

-- the same where the code casts and computes, as `omega (arith, signed_casts)`
pub ruleset signed_casts = (signed, fits_out, fits_in, back_is, small_is, plain_bits, not_negative_out, not_negative_in, quot_is, rem_is)
