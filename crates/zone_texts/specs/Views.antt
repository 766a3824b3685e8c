-- What is seen of a zone that replies are about.
use Rattle.std.specs.Prelude.{ℕ, ℤ, List}

-- the seconds east of UTC, how many of them are the saving, and the abbreviation
pub record InForce : Type 0 where
  pub offset : ℤ
  pub saving : ℤ
  pub name : List ℕ

pub record ZoneView : Type 0 where
  -- the seconds east of UTC at an instant, in nanoseconds from 1970-01-01 00:00:00 UTC
  pub total : ℤ → ℤ
  -- the instants of a local time, by time
  pub readings : ℤ → List ℤ
  -- what is in force at a second from then
  pub force : ℤ → InForce
  -- the seconds of changes, from one second on and before another, by time
  pub changes : ℤ → ℤ → List ℤ
  -- the last year up to whose end it says this
  pub last_year : ℤ
