-- What dates, local times and offsets there are.
use Rattle.std.specs.Prelude.{ℕ, Bool, ◌&&◌, IsTrue, ℤ, pos, neg_ℤ, ◌+ℤ◌, ◌*ℤ◌, ◌≤ℤ◌, int_le, int_lt}
pub use Rattle.basics.specs.Offsets.{greatest_offset, is_offset, IsOffset}
use Rattle.civil_base.specs.Clock.{nanos_per_day}

-- the years of dates
pub record IsYear (y : ℤ) : Type 0 where
  pub first : neg_ℤ (pos 9999) ≤ℤ y
  pub last : y ≤ℤ pos 9999

-- the day numbers of -9999-01-01 and of 9999-12-31
abbrev pub first_day : ℤ
first_day = neg_ℤ (pos 4371587)

abbrev pub last_day : ℤ
last_day = pos 2932896

-- the day numbers of those years
pub record IsDay (k : ℤ) : Type 0 where
  pub first : first_day ≤ℤ k
  pub last : k ≤ℤ last_day

-- -9999-01-01 00:00 and the end of 9999-12-31, in nanoseconds from 1970-01-01 00:00
abbrev pub first_time : ℤ
first_time = first_day *ℤ pos nanos_per_day

abbrev pub end_of_times : ℤ
end_of_times = (last_day +ℤ pos 1) *ℤ pos nanos_per_day

-- the date of a local time lies in those years
abbrev pub is_in_years : ℤ → Bool
is_in_years x = int_le first_time x && int_lt x end_of_times

abbrev pub IsInYears : ℤ → Type 0
IsInYears x = IsTrue (is_in_years x)

-- so many seconds from 1970-01-01 00:00 UTC are further than any instant that has a local time
abbrev pub far_seconds : ℕ
far_seconds = 400000000000
