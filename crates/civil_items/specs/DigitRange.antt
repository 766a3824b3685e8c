-- Numbers of decimal digits.
use Rattle.std.specs.Prelude.{ℕ, ◌<◌}

pub record IsDigits (n : ℕ) : Type 0 where
  pub least : 0 < n
  pub greatest : n < 256
