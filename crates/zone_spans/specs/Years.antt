-- The years that a line expands.
use Rattle.std.specs.Prelude.{ℕ, ◌+◌, ◌-◌}

-- the first year that a line expands
abbrev pub earliest_year : ℕ
earliest_year = 1800

-- how many years a line expands at most
abbrev pub most_years : ℕ
most_years = 300

-- the greatest number of years that may be asked for in their place
abbrev pub years_limit : ℕ
years_limit = 1000

-- the last year that a line expands where it has no end
abbrev pub latest_year : ℕ
latest_year = earliest_year + most_years - 1
