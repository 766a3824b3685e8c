-- The digits of a number in parts.
use Rattle.std.proofs.Common.{◌≡◌, refl, arith, ℕ, ◌/◌, ◌%◌, [], ◌∷◌, ◌++◌}
use Rattle.civil_base.specs.Layout.{digit, two_digits, four_digits, nine_digits}

-- the digits of a number are those of its hundreds and of what is left
pub digits-halves : (n : ℕ) → (digit n 1000 ≡ digit (n / 100) 10) × (digit n 100 ≡ digit (n / 100) 1)
    × (digit n 10 ≡ digit (n % 100) 10) × (digit n 1 ≡ digit (n % 100) 1)
digits-halves n = (omega arith, omega arith, omega arith, omega arith)

pub four_digits-halves : (n : ℕ) → four_digits n ≡ two_digits (n / 100) ++ two_digits (n % 100)
four_digits-halves n = let halves = digits-halves n in rw (halves.0, halves.1, halves.2, halves.3) refl

pub nine_digits-parts : (n : ℕ) → nine_digits n ≡ four_digits (n / 100000) ++ four_digits (n / 10 % 10000) ++ digit n 1 ∷ []
nine_digits-parts n =
    let e1 : digit n 100000000 ≡ digit (n / 100000) 1000 = omega arith in
    let e2 : digit n 10000000 ≡ digit (n / 100000) 100 = omega arith in
    let e3 : digit n 1000000 ≡ digit (n / 100000) 10 = omega arith in
    let e4 : digit n 100000 ≡ digit (n / 100000) 1 = omega arith in
    let e5 : digit n 10000 ≡ digit (n / 10 % 10000) 1000 = omega arith in
    let e6 : digit n 1000 ≡ digit (n / 10 % 10000) 100 = omega arith in
    let e7 : digit n 100 ≡ digit (n / 10 % 10000) 10 = omega arith in
    let e8 : digit n 10 ≡ digit (n / 10 % 10000) 1 = omega arith in
    (cc)
