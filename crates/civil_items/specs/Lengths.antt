-- Numbers of units of time.
use Rattle.std.specs.Prelude.{ℕ, ◌*◌, ◌^◌, Bool, ◌&&◌, nat_lt, ℤ, pos, neg_ℤ, int_le, int_lt, ◌*ℤ◌}

-- the seconds of so many units, each of so many seconds, are a signed number of 64 bits
abbrev pub fits_seconds : ℤ → ℕ → Bool
fits_seconds count seconds =
    int_le (neg_ℤ (pos (2 ^ 63))) (count *ℤ pos seconds) && int_lt (count *ℤ pos seconds) (pos (2 ^ 63))

-- and an unsigned one
abbrev pub fits_std_seconds : ℕ → ℕ → Bool
fits_std_seconds count seconds = nat_lt (count * seconds) (2 ^ 64)

-- the seconds of the units
abbrev pub minute : ℕ
minute = 60

abbrev pub hour : ℕ
hour = 3600

abbrev pub day : ℕ
day = 86400

abbrev pub week : ℕ
week = 604800
