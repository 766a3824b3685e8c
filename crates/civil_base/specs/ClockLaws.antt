-- The parts of a time of day.
use Rattle.std.proofs.Common.{◌≡◌, arith, ℕ, ◌<◌}
use Rattle.civil_base.specs.Clock.{nanos_per_day, hour_of, minute_of, second_of, nanosecond_of, time_at, IsClockTime}

pub clock_parts : (t : ℕ) → t < nanos_per_day → IsClockTime (hour_of t) (minute_of t) (second_of t) (nanosecond_of t)
unfolding hour_of minute_of second_of nanosecond_of
clock_parts t h = record {
  hours = omega arith;
  minutes = omega arith;
  seconds = omega arith;
  nanoseconds = omega arith;
}

pub time_at-parts : (t : ℕ) → time_at (hour_of t) (minute_of t) (second_of t) (nanosecond_of t) ≡ t
unfolding hour_of minute_of second_of nanosecond_of time_at
time_at-parts t = omega arith
