-- What clocks show at UTC.
use Rattle.std.proofs.Common.{◌≡◌, arith, pos}
use Rattle.basics.specs.SignedLaws.{signed}
use Rattle.civil_base.specs.{DateTimes.{instant, local_of, offset_of}, declared.offset_date_time.OffsetDateTime.{OffsetDateTime}}

pub at_utc : (value : OffsetDateTime) → offset_of value ≡ pos 0 → local_of value ≡ instant value
unfolding instant
at_utc value offset = omega (arith, signed, offset)
