-- Years counted from the first of a cycle of 400 years, as 1 or -11999 is.
use Rattle.std.specs.Prelude.{ℕ, ◌+◌, ◌-◌, ◌*◌, ◌/◌}

-- the days of the first n years
abbrev pub cycle_days : ℕ → ℕ
cycle_days n = 365 * n + n / 4 - n / 100 + n / 400
