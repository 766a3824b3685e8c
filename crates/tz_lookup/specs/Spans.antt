-- The spans of a schedule, by number: span 0 holds before the first shift, and shift i begins span i + 1.
use Rattle.std.specs.Prelude.{ℕ, zero, suc, ◌+◌, ◌<◌, ◌≤◌, List, length, filter, slice_index_or, ℤ, pos, ◌+ℤ◌, ◌≤ℤ◌, ◌<ℤ◌, int_le}
use Rattle.zone_spans.specs.Schedules.{last_total}

-- a second, and the total from then on
abbrev pub Shift : Type 0
Shift = ℤ × ℤ

abbrev pub shift_at : List Shift → ℕ → Shift
shift_at shifts i = slice_index_or shifts i (pos 0, pos 0)

-- the total of span i
abbrev pub total_of : ℤ → List Shift → ℕ → ℤ
total_of first shifts zero = first
total_of first shifts (suc i) = (shift_at shifts i).1

-- the total of the last shift at or before a second, else the first total
abbrev pub total_from : ℤ → List Shift → ℤ → ℤ
total_from first shifts second = last_total first (filter (λ (shift : Shift). int_le shift.0 second) shifts)

-- the local start of span i, for every span but the first: its time plus its own total
abbrev pub local_start : List Shift → ℕ → ℤ
local_start shifts zero = pos 0
local_start shifts (suc i) = (shift_at shifts i).0 +ℤ (shift_at shifts i).1

-- the local end of span i, for every span but the last: the next shift's time plus the span's own total
abbrev pub local_end : ℤ → List Shift → ℕ → ℤ
local_end first shifts i = (shift_at shifts i).0 +ℤ total_of first shifts i

-- the local second x lies in span i: from its start up to, without, its end
pub record IsIn (first : ℤ) (shifts : List Shift) (i : ℕ) (x : ℤ) : Type 0 where
  pub within : i ≤ length shifts
  pub begun : 0 < i → local_start shifts i ≤ℤ x
  pub lasts : i < length shifts → x <ℤ local_end first shifts i

abbrev pub TimesDontFall : List Shift → Type 0
TimesDontFall shifts = (i j : ℕ) → i ≤ j → j < length shifts → (shift_at shifts i).0 ≤ℤ (shift_at shifts j).0

-- local starts don't fall, local ends don't fall, and no local second lies in a span and in the next but one
pub record IsOrderly (first : ℤ) (shifts : List Shift) : Type 0 where
  pub starts : (i j : ℕ) → 0 < i → i ≤ j → j ≤ length shifts → local_start shifts i ≤ℤ local_start shifts j
  pub ends : (i j : ℕ) → i ≤ j → j < length shifts → local_end first shifts i ≤ℤ local_end first shifts j
  pub apart : (i : ℕ) (x : ℤ) → IsIn first shifts i x → IsIn first shifts (i + 2) x → ⊥

-- the first k shifts are at or before a second, and the others after it
pub record IsCut (shifts : List Shift) (k : ℕ) (second : ℤ) : Type 0 where
  pub within : k ≤ length shifts
  pub before : (j : ℕ) → j < k → (shift_at shifts j).0 ≤ℤ second
  pub after : (j : ℕ) → k ≤ j → j < length shifts → second <ℤ (shift_at shifts j).0
