use Rattle.std.proofs.{Common.{arith, ◌≡◌, ℤ, pos, negsuc, to_z-of_z, refl, true, false}, lemmas.Int.{ints}}
use lib.Signed.{lt_z, le_z}
use Rattle.civil_base.specs.Ranges.{is_in_years}
use Rattle.civil_base.proofs.plain_date_time.is_in_years.Goals as goal

-- the last nanosecond of the years comes before their end
last_is : (x : ℤ) → le_z x (pos 253402300799999999999) ≡ lt_z x (pos 253402300800000000000)
last_is x = grind (arith, ints)

then_is : (n x : ℤ) → n ≡ x → le_z (negsuc 377705116799999999999) n ≡ true → le_z n (pos 253402300799999999999) ≡ is_in_years x
then_is n x e h = rw (← e, h) (last_is n)

else_is : (n x : ℤ) → n ≡ x → le_z (negsuc 377705116799999999999) n ≡ false → le_z (negsuc 377705116799999999999) n ≡ is_in_years x
else_is n x e h = rw (← e, h) refl

pub returns-then-nanos-ge-FIRST : goal.returns-then-nanos-ge-FIRST
returns-then-nanos-ge-FIRST c = then_is _ c.args.nanos (to_z-of_z c.ranges.nanos) c.if-nanos-ge-FIRST.true

pub returns-else-nanos-ge-FIRST : goal.returns-else-nanos-ge-FIRST
returns-else-nanos-ge-FIRST c = else_is _ c.args.nanos (to_z-of_z c.ranges.nanos) c.if-nanos-ge-FIRST.false
