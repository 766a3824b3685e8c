-- What is known of a value's text before it is written.
use Rattle.std.specs.Prelude.{ℕ}

-- the width without padding, and whatever else the type keeps
pub record Known (M : Type 0) : Type 0 where
  pub unpadded_width : ℕ
  pub metadata : M
