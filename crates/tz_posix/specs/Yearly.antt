-- What is seen of the code's times and moments of years.
use Rattle.std.specs.Prelude.{ℤ}
use Rattle.tz_posix.specs.declared.{moments.Moments.{Moments}, rule.YearlyTime.{YearlyTime}}
use Rattle.tz_posix.specs.InForce as force

abbrev pub time_shown : YearlyTime → force.YearlyTime
time_shown time = (time.date, time.seconds)

abbrev pub moments_shown : Moments → ℤ × ℤ
moments_shown moments = (moments.start, moments.end)
