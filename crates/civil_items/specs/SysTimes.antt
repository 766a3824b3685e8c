-- Times of a system's clock, in nanoseconds from 1970-01-01 00:00 UTC.
use Rattle.std.specs.Prelude.{◌/◌, ◌*◌, ◌^◌, Bool, ◌&&◌, IsTrue, if◌then◌else◌, nat_le, ℤ, pos, neg_ℤ, int_le, int_lt, unsigned_abs}
use Rattle.civil_parts.specs.Durations.{longest, shortest}

-- the seconds, rounded down, are a signed number of 64 bits
abbrev pub is_sys_time : ℤ → Bool
is_sys_time nanos = int_le (neg_ℤ (pos (2 ^ 63 * 1000000000))) nanos && int_lt nanos (pos (2 ^ 63 * 1000000000))

abbrev pub IsSysTime : ℤ → Type 0
IsSysTime nanos = IsTrue (is_sys_time nanos)

-- the whole seconds of a distance, whichever its sign, are a signed number of 64 bits
abbrev pub is_near : ℤ → Bool
is_near distance = nat_le (unsigned_abs distance / 1000000000) 9223372036854775807

-- the distance as a length of time; one that is not near is the longest or the shortest length there is
unfoldable pub length_of : ℤ → ℤ
length_of distance = if is_near distance then distance else (if int_lt distance (pos 0) then shortest else longest)
