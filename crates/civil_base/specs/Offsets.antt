-- Offsets by hours, minutes and seconds.
use Rattle.std.specs.{Prelude.{ℕ, ◌+◌, ◌*◌, ◌≤◌, Bool, if◌then◌else◌, ℤ, pos, neg_ℤ, int_lt, int_div, int_rem, unsigned_abs}, Ordering.{int_eq}}

-- whether the first part that isn't 0 is negative
abbrev pub is_first_negative : ℤ → ℤ → ℤ → Bool
is_first_negative h m s = if int_eq h (pos 0) then (if int_eq m (pos 0) then int_lt s (pos 0) else int_lt m (pos 0)) else int_lt h (pos 0)

abbrev pub signed_by : Bool → ℕ → ℤ
signed_by negative size = if negative then neg_ℤ (pos size) else pos size

-- the seconds of the sizes of the parts, with the sign of the first part that isn't 0
unfoldable pub offset_at : ℤ → ℤ → ℤ → ℤ
offset_at h m s = signed_by (is_first_negative h m s) ((unsigned_abs h * 60 + unsigned_abs m) * 60 + unsigned_abs s)

pub record IsOffsetParts (h m s : ℤ) : Type 0 where
  pub hours : unsigned_abs h ≤ 25
  pub minutes : unsigned_abs m ≤ 59
  pub seconds : unsigned_abs s ≤ 59

-- the hours, the minutes past them and the seconds past these, all with the sign of the offset
abbrev pub hours_in : ℤ → ℤ
hours_in o = int_div o (pos 3600)

abbrev pub minutes_in : ℤ → ℤ
minutes_in o = int_rem (int_div o (pos 60)) (pos 60)

abbrev pub seconds_in : ℤ → ℤ
seconds_in o = int_rem o (pos 60)
