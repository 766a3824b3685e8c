-- How far clocks may be from UTC, in seconds, and what time they show. Instants and local times are in nanoseconds: those from
-- 1970-01-01 00:00 UTC, and those from 1970-01-01 00:00 on the clock.
use Rattle.std.specs.Prelude.{ℕ, Bool, IsTrue, ℤ, pos, ◌+ℤ◌, ◌-ℤ◌, ◌*ℤ◌, nat_le, unsigned_abs}

-- the seconds of the largest offset, 25:59:59
abbrev pub greatest_offset : ℕ
greatest_offset = 93599

-- so many seconds are an offset: less than 26 hours in size
abbrev pub is_offset : ℤ → Bool
is_offset o = nat_le (unsigned_abs o) greatest_offset

abbrev pub IsOffset : ℤ → Type 0
IsOffset o = IsTrue (is_offset o)

-- the local time of the instant t where clocks are o seconds ahead of UTC
abbrev pub local_at : ℤ → ℤ → ℤ
local_at t o = t +ℤ pos 1000000000 *ℤ o

-- the instant at which those clocks show the local time x
abbrev pub instant_at : ℤ → ℤ → ℤ
instant_at x o = x -ℤ pos 1000000000 *ℤ o
