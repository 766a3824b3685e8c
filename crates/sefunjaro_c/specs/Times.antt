-- Instants in seconds and nanoseconds.
use Rattle.std.specs.Prelude.{ℕ, ℤ, pos, ◌+ℤ◌, ◌-ℤ◌, Bool, ◌&&◌, nat_lt, int_le, int_lt}
use Rattle.civil_base.specs.{Instants.{nanos_of}, Ranges.{end_of_times, first_time, greatest_offset}}

-- so many seconds from 1970-01-01 00:00:00 UTC and so many nanoseconds more
abbrev pub nanos_at : ℤ → ℕ → ℤ
nanos_at second nanosecond = nanos_of second +ℤ pos nanosecond

-- an instant lies outside the years -9999 to 9999 by no more than the greatest offset
abbrev pub is_near : ℤ → Bool
is_near t = int_le (first_time -ℤ nanos_of (pos greatest_offset)) t && int_lt t (end_of_times +ℤ nanos_of (pos greatest_offset))

-- the nanoseconds are less than a second, and the instant is near
abbrev pub is_instant : ℤ → ℕ → Bool
is_instant second nanosecond = nat_lt nanosecond 1000000000 && is_near (nanos_at second nanosecond)
