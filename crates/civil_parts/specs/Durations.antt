-- Lengths of time, in nanoseconds.
use Rattle.std.specs.Prelude.{ℕ, ◌+◌, ◌*◌, ◌^◌, ◌<◌, int_div, Bool, ◌&&◌, ◌||◌, ℤ, pos, neg_ℤ, ◌≤ℤ◌, int_le, nat_le, unsigned_abs}

-- the seconds of a length are signed numbers of 64 bits, and it has less than a second besides
abbrev pub longest : ℤ
longest = pos (9223372036854775807 * 1000000000 + 999999999)

abbrev pub shortest : ℤ
shortest = neg_ℤ (pos (9223372036854775808 * 1000000000 + 999999999))

pub record IsDuration (n : ℤ) : Type 0 where
  pub least : shortest ≤ℤ n
  pub greatest : n ≤ℤ longest

-- the whole seconds, and the whole days of 86,400 seconds, cut towards zero
abbrev pub whole_seconds : ℤ → ℤ
whole_seconds n = int_div n (pos 1000000000)

abbrev pub whole_days : ℤ → ℤ
whole_days n = int_div n (pos 86400000000000)

-- nanoseconds that are less than a second, and on no other side of 0 than the seconds
unfoldable pub are_parts : ℤ → ℤ → Bool
are_parts seconds nanoseconds =
    nat_le (unsigned_abs nanoseconds) 999999999
    && (int_le (pos 0) seconds || int_le nanoseconds (pos 0))
    && (int_le seconds (pos 0) || int_le (pos 0) nanoseconds)

-- the length of a duration without a sign: its seconds are unsigned numbers of 64 bits
abbrev pub IsStdDuration : ℕ → Type 0
IsStdDuration n = n < 2 ^ 64 * 1000000000
