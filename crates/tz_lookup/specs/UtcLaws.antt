-- Date-times at UTC: the instant and its second are those of the local time.
use Rattle.std.proofs.{Common.{◌≡◌, ℤ, pos, ◌-ℤ◌, ◌*ℤ◌, ap, ◌∙◌, arith}, lemmas.Int.{ints}}
use Rattle.civil_base.specs.{DateTimes.{instant, local_of, offset_of}, Instants.{seconds_of}, declared.offset_date_time.OffsetDateTime.{OffsetDateTime}}

no_offset : (x o : ℤ) → o ≡ pos 0 → x -ℤ pos 1000000000 *ℤ o ≡ x
no_offset x o e = omega (arith, ints, e)

-- the instant is the local time
pub at_utc : (v : OffsetDateTime) (x : ℤ) → local_of v ≡ x → offset_of v ≡ pos 0 → instant v ≡ x
unfolding instant
at_utc v x e f = (λ i. e i -ℤ pos 1000000000 *ℤ offset_of v) ∙ no_offset x (offset_of v) f

pub second_at_utc : (v : OffsetDateTime) (x : ℤ) → local_of v ≡ x → offset_of v ≡ pos 0 → seconds_of (instant v) ≡ seconds_of x
second_at_utc v x e f = ap seconds_of (at_utc v x e f)
