-- The parts of a day as a text shows them.
use Rattle.std.specs.Prelude.{◌≡◌, ℕ, ℤ, Bool, pos, int_lt, unsigned_abs}
use Rattle.basics.specs.Dates.{year_of, month_of, day_of}

-- the sign of the year and its size, the month and the day of the month
pub record HasParts (k : ℤ) (negative : Bool) (size month day : ℕ) : Type 0 where
  pub sign : int_lt (year_of k) (pos 0) ≡ negative
  pub year : unsigned_abs (year_of k) ≡ size
  pub month_is : month_of k ≡ month
  pub day_is : day_of k ≡ day
