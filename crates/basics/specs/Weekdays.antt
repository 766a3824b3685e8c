-- The weekdays of day numbers.
use Rattle.std.specs.{Prelude.{ℕ, ℤ, pos, ◌+ℤ◌, unsigned_abs}, Int.{int_rem_euclid}}

-- the weekday of a day number, where Sunday is 0: day 0 was a Thursday
unfoldable pub weekday_of : ℤ → ℕ
weekday_of k = unsigned_abs (int_rem_euclid (k +ℤ pos 4) (pos 7))
