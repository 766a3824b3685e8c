-- The spans of a zone at seconds, and how many of its shifts lie before one. Span 0 holds before the first shift, and shift i begins span i + 1.
use Rattle.std.specs.Prelude.{ℕ, zero, suc, ◌<◌, ◌≤◌, List, length, ℤ, ◌≤ℤ◌, ◌<ℤ◌}
use Rattle.tz_lookup.specs.Spans.{Shift, shift_at}

-- span k has begun at a second
abbrev pub HasBegun : List Shift → ℕ → ℤ → Type 0
HasBegun shifts zero second = Unit {0}
HasBegun shifts (suc i) second = (shift_at shifts i).0 ≤ℤ second

-- span k has not ended at a second
abbrev pub Lasts : List Shift → ℕ → ℤ → Type 0
Lasts shifts k second = k < length shifts → second <ℤ (shift_at shifts k).0

-- k shifts lie before a second
pub record IsCount (shifts : List Shift) (second : ℤ) (k : ℕ) : Type 0 where
  pub within : k ≤ length shifts
  pub before : (j : ℕ) → j < k → (shift_at shifts j).0 <ℤ second
  pub after : (j : ℕ) → k ≤ j → j < length shifts → second ≤ℤ (shift_at shifts j).0
