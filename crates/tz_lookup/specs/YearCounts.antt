-- How many entries lie before each year.
use Rattle.std.specs.Prelude.{◌<◌, ◌≤◌, ℕ, zero, suc, ℤ, pos, ◌-ℤ◌, ◌<ℤ◌, List, length, slice_index_or}
use Rattle.tz_lookup.specs.{Spans.{Shift, shift_at, IsCut}, Years.{counted_years, year_second}}

-- the first k shifts lie before a second
abbrev pub AreBefore : List Shift → ℕ → ℤ → Type 0
AreBefore shifts k second = (j : ℕ) → j < k → (shift_at shifts j).0 <ℤ second

-- so many shifts lie before each of the first years from 1800 on, and all of them before each later one up to 2800
pub record AreYearCounts (shifts : List Shift) (counts : List ℕ) : Type 0 where
  pub few : length counts ≤ counted_years
  pub each : (i : ℕ) → i < length counts → IsCut shifts (slice_index_or counts i 0) (year_second i -ℤ pos 1)
  pub later : (i : ℕ) → length counts ≤ i → i < counted_years → IsCut shifts (length shifts) (year_second i -ℤ pos 1)

-- the entries before the nth year, where 1800 is number 1 and all before it are number 0: all of them where no count is kept
abbrev pub before_year : List ℕ → ℕ → ℕ → ℕ
before_year counts entries zero = 0
before_year counts entries (suc n) = slice_index_or counts n entries
