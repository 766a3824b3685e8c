-- Julian days, by day numbers.
use Rattle.std.specs.Prelude.{ℤ, pos, ◌+ℤ◌, ◌-ℤ◌}

-- the Julian day of 1970-01-01
abbrev pub julian_epoch : ℤ
julian_epoch = pos 2440588

abbrev pub julian_of : ℤ → ℤ
julian_of k = k +ℤ julian_epoch

abbrev pub day_of_julian : ℤ → ℤ
day_of_julian j = j -ℤ julian_epoch
