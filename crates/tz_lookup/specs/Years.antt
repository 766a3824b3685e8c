-- The years from 1800 to 2800 in UTC.
use Rattle.std.specs.Prelude.{ℕ, zero, suc, ◌+◌, ◌<◌, ◌≤◌, ℤ, pos, ◌+ℤ◌, ◌*ℤ◌, ◌≤ℤ◌, ◌<ℤ◌, int_le, length, filter, nat_eq, if◌then◌else◌}
use Rattle.basics.specs.Days.{day}
use Rattle.zone_spans.specs.Years.{earliest_year, years_limit}
use Rattle.tz_lookup.specs.declared.set.FixedTimespanSet.{FixedTimespanSet}

-- the years that are counted: all that a line may be expanded for, and the one after them
abbrev pub counted_years : ℕ
counted_years = suc years_limit

-- the second at which the year 1800 + i begins
unfoldable pub year_second : ℕ → ℤ
year_second i = pos 86400 *ℤ day (pos (earliest_year + i)) 1 1

-- of the n years from the year 1800 + i on, how many have begun at a second
unfoldable pub begun_from : ℤ → ℕ → ℕ → ℕ
begun_from second i zero = 0
begun_from second i (suc n) = if int_le (year_second i) second then suc (begun_from second (suc i) n) else 0

-- how many of the years from 1800 to 2800 have begun at a second: none before 1800, and all from 2800 on
unfoldable pub years_begun : ℤ → ℕ
years_begun second = begun_from second 0 counted_years

-- c of them have begun at a second
pub record HaveBegun (c : ℕ) (second : ℤ) : Type 0 where
  pub within : c ≤ counted_years
  pub begun : (j : ℕ) → j < c → year_second j ≤ℤ second
  pub ahead : c < counted_years → second <ℤ year_second c

-- how many entries lie in the year of a second; all years before 1800 are one, and so are all from 2800 on
unfoldable pub changes_in_year : FixedTimespanSet → ℤ → ℕ
changes_in_year set second = length (filter (λ entry. nat_eq (years_begun entry.0) (years_begun second)) set.others)

-- the second lies in the year, which is one from 1800 to 2799
pub record IsWithinYear (y second : ℤ) : Type 0 where
  pub first : pos earliest_year ≤ℤ y
  pub last : y <ℤ pos (earliest_year + years_limit)
  pub begun : (pos 86400 *ℤ day y 1 1) ≤ℤ second
  pub next : second <ℤ (pos 86400 *ℤ day (y +ℤ pos 1) 1 1)
