use Rattle.std.proofs.{Common.{arith, ◌≡◌, ℕ, true, false, ℤ, pos, ◌<ℤ◌, refl, if◌then◌else◌, int_lt}, lemmas.Int.{ints}}
use Rattle.civil_base.proofs.read.sign_byte.Goals as goal

below : (o : ℤ) → o <ℤ pos 0 → ◌≡◌ {A = ℕ} 45 (if int_lt o (pos 0) then 45 else 43)
below o h = grind (arith, ints)

not_below : (o : ℤ) → (o <ℤ pos 0 → false ≡ true) → ◌≡◌ {A = ℕ} 43 (if int_lt o (pos 0) then 45 else 43)
not_below o h = grind (arith, ints)

pub returns-then-is_negative : goal.returns-then-is_negative
returns-then-is_negative c = below c.args.offset ((c.if-is_negative.ensures).0 refl)

pub returns-else-is_negative : goal.returns-else-is_negative
returns-else-is_negative c = not_below c.args.offset ((c.if-is_negative.ensures).1)
