-- How much of an open line is held.
use Rattle.std.specs.Prelude.{ℕ, ◌≤◌}

-- two bytes more than the longest request: one that has as many is too long, also where the last of them is a CR
abbrev pub room : ℕ
room = 4098

-- what is held is within the room, and the room within what is reserved
pub record HasRoom (held capacity : ℕ) : Type 0 where
  pub within : held ≤ room
  pub reserved : room ≤ capacity
