-- The years of seconds.
use Rattle.std.specs.Prelude.{ℤ, pos, neg_ℤ, ◌+ℤ◌, ◌*ℤ◌, ◌≤ℤ◌, ◌<ℤ◌}
use Rattle.basics.specs.Days.{day}

-- by clocks so many seconds ahead of UTC the date of a second lies in the years from first to last
pub record IsInYears (first last offset second : ℤ) : Type 0 where
  pub begun : (pos 86400 *ℤ day first 1 1) ≤ℤ (second +ℤ offset)
  pub not_over : (second +ℤ offset) <ℤ (pos 86400 *ℤ (day last 12 31 +ℤ pos 1))

-- 26 hours before -9999-01-01 00:00:00 UTC, and 26 hours past 9999-12-31
abbrev pub first_dated : ℤ
first_dated = neg_ℤ (pos 377705210400)

abbrev pub end_of_dated : ℤ
end_of_dated = pos 253402394400

-- clocks less than 26 hours from UTC may show a date of the years -9999 to 9999 at the second
pub record HasDate (second : ℤ) : Type 0 where
  pub first : first_dated ≤ℤ second
  pub last : second <ℤ end_of_dated
