-- Instants and local times, both in nanoseconds: those from 1970-01-01 00:00 UTC, and those from 1970-01-01 00:00 on the clock.
use Rattle.std.specs.{Prelude.{ℤ, pos, ◌*ℤ◌}, Int.{int_div_euclid}}
pub use Rattle.basics.specs.Offsets.{local_at, instant_at}

-- the nanoseconds of whole seconds
abbrev pub nanos_of : ℤ → ℤ
nanos_of seconds = seconds *ℤ pos 1000000000

-- the whole seconds of nanoseconds, rounded down
unfoldable pub seconds_of : ℤ → ℤ
seconds_of nanos = int_div_euclid nanos (pos 1000000000)
