-- What is seen of the real file and streams: their counts, and whether a file is open; no content.
use Rattle.std.specs.Prelude.{ℕ, Bool}

-- files: whether one is open, the bytes given, and the faults
pub record FileState : Type 0 where
  pub is_open : Bool
  pub given : ℕ
  pub faults : ℕ

-- an input: the bytes given, and the faults
pub record InputState : Type 0 where
  pub given : ℕ
  pub faults : ℕ

-- an output: the faults
pub record OutputState : Type 0 where
  pub faults : ℕ
