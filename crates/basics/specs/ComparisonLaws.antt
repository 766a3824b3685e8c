-- What the tests of order and of equality on whole numbers say, and how their orders join.
use Rattle.std.{specs.Prelude.{◌≡◌, true, false, ℤ, ◌≤ℤ◌, ◌<ℤ◌, int_le, int_lt}, specs.Ordering.{int_eq}, proofs.Common.{arith}, proofs.lemmas.Int.{ints}}
pub use Rattle.std.specs.Int.Signed.{≤ℤ_refl as le_itself}

pub le_pass : (a b : ℤ) → a ≤ℤ b → int_le a b ≡ true
le_pass a b h = grind (arith, ints)

pub le_fail : (a b : ℤ) → b <ℤ a → int_le a b ≡ false
le_fail a b h = grind (arith, ints)

pub lt_pass : (a b : ℤ) → a <ℤ b → int_lt a b ≡ true
lt_pass a b h = grind (arith, ints)

pub lt_fail : (a b : ℤ) → b ≤ℤ a → int_lt a b ≡ false
lt_fail a b h = grind (arith, ints)

pub le_from_pass : (a b : ℤ) → int_le a b ≡ true → a ≤ℤ b
le_from_pass a b h = grind (arith, ints)

pub le_from_fail : (a b : ℤ) → int_le a b ≡ false → b <ℤ a
le_from_fail a b h = grind (arith, ints)

pub lt_from_pass : (a b : ℤ) → int_lt a b ≡ true → a <ℤ b
lt_from_pass a b h = grind (arith, ints)

pub lt_from_fail : (a b : ℤ) → int_lt a b ≡ false → b ≤ℤ a
lt_from_fail a b h = grind (arith, ints)

pub eq_pass : (a b : ℤ) → a ≡ b → int_eq a b ≡ true
eq_pass a b h = grind (arith, ints)

pub eq_itself : (a : ℤ) → int_eq a a ≡ true
eq_itself a = grind (arith, ints)

pub eq_from_pass : (a b : ℤ) → int_eq a b ≡ true → a ≡ b
eq_from_pass a b h = grind (arith, ints)

pub le_from_eq : (a b : ℤ) → a ≡ b → a ≤ℤ b
le_from_eq a b h = omega (arith, ints)

pub le_from_lt : (a b : ℤ) → a <ℤ b → a ≤ℤ b
le_from_lt a b h = omega (arith, ints)

pub le_le : (a b c : ℤ) → a ≤ℤ b → b ≤ℤ c → a ≤ℤ c
le_le a b c h k = omega (arith, ints)

pub lt_le : (a b c : ℤ) → a <ℤ b → b ≤ℤ c → a <ℤ c
lt_le a b c h k = omega (arith, ints)

pub le_lt : (a b c : ℤ) → a ≤ℤ b → b <ℤ c → a <ℤ c
le_lt a b c h k = omega (arith, ints)

pub opposed : (a b : ℤ) → a <ℤ b → b ≤ℤ a → ⊥
opposed a b h k = omega (arith, ints)

-- an order of two numbers is that of two others that they equal
pub le_same : (x y a b : ℤ) → x ≡ a → y ≡ b → a ≤ℤ b → x ≤ℤ y
le_same x y a b e f h = omega (arith, ints)

pub lt_same : (x y a b : ℤ) → x ≡ a → y ≡ b → a <ℤ b → x <ℤ y
lt_same x y a b e f h = omega (arith, ints)
