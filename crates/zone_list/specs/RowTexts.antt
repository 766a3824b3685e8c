-- What is seen of the text of a row while it is written.
use Rattle.std.specs.Prelude.{ℕ, List}

-- its bytes so far, and how many more there is room for
pub record RowSoFar : Type 0 where
  pub text : List ℕ
  pub room : ℕ
