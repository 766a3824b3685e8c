-- Date-times with an offset, as numbers.
use Rattle.std.specs.Prelude.{◌≡◌, refl, ℤ}
use Rattle.civil_base.specs.{Instants.{instant_at}, declared.offset_date_time.OffsetDateTime.{OffsetDateTime}}

-- the nanoseconds from 1970-01-01 00:00 to the date and time in the value's own offset
unfoldable pub local_of : OffsetDateTime → ℤ
local_of value = value.local

-- the seconds of the offset
unfoldable pub offset_of : OffsetDateTime → ℤ
offset_of value = value.offset

-- the nanoseconds from 1970-01-01 00:00 UTC
unfoldable pub instant : OffsetDateTime → ℤ
instant value = instant_at (local_of value) (offset_of value)

-- that local time at that offset
unfoldable pub at_offset : ℤ → ℤ → OffsetDateTime
at_offset local offset = record { local = local; offset = offset }

pub offset_of-at_offset : (local offset : ℤ) → offset_of (at_offset local offset) ≡ offset
unfolding offset_of at_offset
offset_of-at_offset local offset = refl

pub instant-at_offset : (local offset : ℤ) → instant (at_offset local offset) ≡ instant_at local offset
unfolding instant local_of offset_of at_offset
instant-at_offset local offset = refl
