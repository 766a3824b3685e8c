-- What totals keep to.
use Rattle.std.specs.Prelude.{ℤ}
use Rattle.civil_base.specs.Ranges.{IsOffset}
use Rattle.sefunjaro.specs.GapPlaces.{HoldsSeconds}

-- one is in force throughout each second, and each is an offset
pub record IsSteady (total : ℤ → ℤ) : Type 0 where
  pub seconds : HoldsSeconds total
  pub range : (t : ℤ) → IsOffset (total t)
