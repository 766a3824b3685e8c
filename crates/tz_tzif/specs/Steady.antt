-- How long what changes put in force holds.
use Rattle.std.specs.Prelude.{◌≡◌, ◌<◌, ℕ, ℤ, pos, nat_eq, ◌≤ℤ◌, ◌<ℤ◌, int_le, List, filter, length, slice_index_or, take}
use Rattle.tz_tzif.specs.InForce.{are_over}
use Rattle.zone_tzif_core.specs.{ZoneFiles.{unnumbered}, Zones.{KindValue}}

-- the first so many of the changes are those at or before the second
pub record AreFirst (changes : List (ℤ × KindValue)) (count : ℕ) (s : ℤ) : Type 0 where
  pub before : take count changes ≡ filter (λ change. int_le change.0 s) changes
  pub over : are_over changes s ≡ nat_eq count (length changes)

-- and so at each second from this one on and before the next change, if there is one
abbrev pub IsSteady : List (ℤ × KindValue) → ℕ → ℤ → Type 0
IsSteady changes count s =
    (t : ℤ) → s ≤ℤ t → (count < length changes → t <ℤ (slice_index_or changes count (pos 0, unnumbered)).0) → AreFirst changes count t
