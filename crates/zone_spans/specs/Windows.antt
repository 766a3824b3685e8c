-- When a line ends.
use Rattle.std.specs.Prelude.{ℤ}
use Rattle.zone_table.specs.{Moments.{instant_of}, Ends.{time_type, wall}, declared.change.ChangeTime.{ChangeTime}}

-- the instant of an end under an offset and a saving, by the clock of its time
unfoldable pub line_end : ChangeTime → ℤ → ℤ → ℤ
line_end end utc_offset dst_offset = instant_of (time_type end) (wall end) utc_offset dst_offset
