-- Times of day, in nanoseconds from midnight.
use Rattle.std.specs.Prelude.{ℕ, ◌+◌, ◌*◌, ◌/◌, ◌%◌, ◌<◌}

abbrev pub nanos_per_day : ℕ
nanos_per_day = 86400 * 1000000000

-- the nanoseconds from midnight of a time of day
abbrev pub IsTimeOfDay : ℕ → Type 0
IsTimeOfDay t = t < nanos_per_day

unfoldable pub hour_of : ℕ → ℕ
hour_of t = t / (3600 * 1000000000)

unfoldable pub minute_of : ℕ → ℕ
minute_of t = t / (60 * 1000000000) % 60

unfoldable pub second_of : ℕ → ℕ
second_of t = t / 1000000000 % 60

unfoldable pub nanosecond_of : ℕ → ℕ
nanosecond_of t = t % 1000000000

unfoldable pub time_at : ℕ → ℕ → ℕ → ℕ → ℕ
time_at hour minute second nanosecond = ((hour * 60 + minute) * 60 + second) * 1000000000 + nanosecond

-- a clock shows these parts
pub record IsClockTime (hour minute second nanosecond : ℕ) : Type 0 where
  pub hours : hour < 24
  pub minutes : minute < 60
  pub seconds : second < 60
  pub nanoseconds : nanosecond < 1000000000
