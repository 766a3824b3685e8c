-- Years that are asked in place of others.
use Rattle.std.specs.Prelude.{◌≡◌, Bool, ℤ, pos, neg_ℤ, ◌+ℤ◌, ◌*ℤ◌, ◌≤ℤ◌}
use Rattle.basics.specs.Days.{day}
use Rattle.tz_posix.specs.InForce.{YearlyTime, moments_in}
use Rattle.tz_tzif.specs.FooterForce.{saved_in}

-- a year that is counted with the year after it and the two years before it
pub record IsAskedYear (y : ℤ) : Type 0 where
  pub first : neg_ℤ (pos 9998) ≤ℤ y
  pub last : y ≤ℤ pos 9999

-- so many seconds later each rule gives by the year that is asked what it gives by the year, and the next year begins
pub record StandsForYear (y asked later : ℤ) : Type 0 where
  pub gives : (standard saving : ℤ) (start end : YearlyTime) (t : ℤ)
      → saved_in (moments_in standard saving start end) asked (t +ℤ later) ≡ saved_in (moments_in standard saving start end) y t
  pub ends : pos 86400 *ℤ day (asked +ℤ pos 1) 1 1 ≡ pos 86400 *ℤ day (y +ℤ pos 1) 1 1 +ℤ later
