-- Instants, local times and offsets of one value.
use Rattle.std.proofs.Common.{◌≡◌, refl, arith}
use Rattle.basics.specs.SignedLaws.{signed}
use Rattle.civil_base.specs.{declared.offset_date_time.OffsetDateTime.{OffsetDateTime}, Instants.{instant_at, local_at}, DateTimes.{local_of, offset_of, instant}}

pub instant-parts : (value : OffsetDateTime) → instant value ≡ instant_at (local_of value) (offset_of value)
unfolding instant
instant-parts value = refl

-- the local time is the instant moved by the offset
pub local-instant : (value : OffsetDateTime) → local_at (instant value) (offset_of value) ≡ local_of value
local-instant value = omega (arith, signed, instant-parts value)
