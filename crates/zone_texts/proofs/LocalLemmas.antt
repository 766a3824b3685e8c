-- What clocks show, from the instant and the offset.
use Rattle.std.proofs.Common.{◌≡◌, arith, ℤ, pos}
use Rattle.basics.specs.SignedLaws.{signed}
use Rattle.civil_base.specs.{DateTimes.{instant, local_of, offset_of}, Instants.{local_at}, declared.offset_date_time.OffsetDateTime.{OffsetDateTime}}

pub local_is : (value : OffsetDateTime) → local_of value ≡ local_at (instant value) (offset_of value)
unfolding instant
local_is value = omega (arith, signed)

pub at_utc : (value : OffsetDateTime) (x : ℤ) → local_of value ≡ x → offset_of value ≡ pos 0 → instant value ≡ x
unfolding instant
at_utc value x local offset = omega (arith, signed, local, offset)
