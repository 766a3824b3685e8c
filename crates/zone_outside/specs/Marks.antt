-- The calls of an exchange in memory, kept as sizes beside the bytes that moved.
use Rattle.std.specs.Prelude.{◌≡◌, ℕ, ◌+◌, ◌<◌, ◌≤◌, Bool, true, false, List, [], ◌∷◌, length, take, drop}
use Rattle.zone_outside.specs.{Exchanges.{Event, was_read, was_written}, Memory.{CallCounts}}

-- accepted calls: whether each was a write, and how many bytes it moved; with all bytes to be read, and all that were written
abbrev pub events_of : List (Bool × ℕ) → List ℕ → List ℕ → List Event
events_of [] input taken = []
events_of ((false, n) ∷ marks) input taken = was_read (take n input) ∷ events_of marks (drop n input) taken
events_of ((true, n) ∷ marks) input taken = was_written (take n taken) ∷ events_of marks input (drop n taken)

-- how many bytes they read, and wrote
abbrev pub size_read : List (Bool × ℕ) → ℕ
size_read [] = 0
size_read ((false, n) ∷ marks) = n + size_read marks
size_read ((true, n) ∷ marks) = size_read marks

abbrev pub size_written : List (Bool × ℕ) → ℕ
size_written [] = 0
size_written ((false, n) ∷ marks) = size_written marks
size_written ((true, n) ∷ marks) = n + size_written marks

-- an exchange in memory: what it did in how many accepted calls, of how many at most; the bytes still to come; the most that a read
-- gives and a write takes; its reads and its writes
pub record ExchangeState : Type 0 where
  pub done : List Event
  pub made : ℕ
  pub most : ℕ
  pub left : List ℕ
  pub read_step : ℕ
  pub write_step : ℕ
  pub reads : CallCounts
  pub writes : CallCounts

-- what is kept fits together
pub record IsKept (marks : List (Bool × ℕ)) (input taken : List ℕ) (at most capacity read_step write_step : ℕ) : Type 0 where
  pub reads : size_read marks ≡ at
  pub writes : size_written marks ≡ length taken
  pub within : at ≤ length input
  pub few : length marks ≤ most
  pub reserved : most ≤ capacity
  pub read_moves : 0 < read_step
  pub write_moves : 0 < write_step
