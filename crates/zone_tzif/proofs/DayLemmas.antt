-- The day by which a local second is named, by its bounds.
use Rattle.std.{proofs.Common.{◌≡◌, ℤ, pos, neg_ℤ, ◌+ℤ◌, ◌-ℤ◌, ◌*ℤ◌, ◌≤ℤ◌, ◌<ℤ◌, w32, w64, to_z, of_z, arith}, specs.Int.{int_div_euclid}}
use Rattle.basics.specs.SignedLaws.{signed, signed_casts, floored}

pub near_day : (local d : ℤ) → d ≡ int_div_euclid local (pos 86400) → pos 4000000000 ≤ℤ local → local ≤ℤ pos 5000000000
    → (pos 40000 ≤ℤ d) × (d ≤ℤ pos 60000)
near_day local d is low high = (omega (arith, signed, is, floored local 86400), omega (arith, signed, is, floored local 86400))

pub begun_by : (local d b : ℤ) → d ≡ int_div_euclid local (pos 86400) → neg_ℤ (pos 7) ≤ℤ b
    → (pos 86400 *ℤ (d -ℤ b)) ≤ℤ (local +ℤ pos 604800)
begun_by local d b is least = omega (arith, signed, is, floored local 86400)

pub over_by : (local d b : ℤ) → d ≡ int_div_euclid local (pos 86400) → b ≤ℤ pos 6
    → local <ℤ (pos 86400 *ℤ (d -ℤ b) +ℤ pos 604800)
over_by local d b is greatest = omega (arith, signed, is, floored local 86400)

-- a day so many days before another, and as it is computed
pub record IsNamedDay (d b : ℤ) : Type 0 where
  pub computed : to_z w32 (of_z w32 (to_z w64 (of_z w64 (to_z w64 (of_z w64 d) -ℤ to_z w64 (of_z w64 b))))) ≡ d -ℤ b
  pub least : pos 0 ≤ℤ (d -ℤ b)
  pub greatest : (d -ℤ b) ≤ℤ pos 100000

pub named_by : (d b : ℤ) → pos 40000 ≤ℤ d → d ≤ℤ pos 60000 → neg_ℤ (pos 7) ≤ℤ b → b ≤ℤ pos 6 → IsNamedDay d b
named_by d b low high least greatest = record {
  computed = omega (arith, signed_casts);
  least = omega (arith, signed);
  greatest = omega (arith, signed);
}
