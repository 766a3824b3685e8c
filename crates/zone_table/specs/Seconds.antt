-- How many seconds a written time is.
use Rattle.std.specs.Prelude.{ℤ, pos, ◌+ℤ◌, ◌*ℤ◌}
use Rattle.zone_table.specs.declared.time.{TimeSpec.{TimeSpec}, TimeSpec.TheVariants.{Hours, HoursMinutes, HoursMinutesSeconds, Zero}, TimeType.{TimeType}, TimeSpecAndType.{TimeSpecAndType}}

-- the hours, minutes and seconds as seconds
abbrev pub seconds_of : TimeSpec → ℤ
seconds_of (Hours h) = h *ℤ pos 3600
seconds_of (HoursMinutes h m) = h *ℤ pos 3600 +ℤ m *ℤ pos 60
seconds_of (HoursMinutesSeconds h m s) = h *ℤ pos 3600 +ℤ m *ℤ pos 60 +ℤ s
seconds_of Zero = pos 0

-- the time by that clock
abbrev pub with_type : TimeSpec → TimeType → TimeSpecAndType
with_type time clock = record { 0 = time; 1 = clock }
