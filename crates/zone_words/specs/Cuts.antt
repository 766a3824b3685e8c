-- Bytes cut at their first LF.
use Rattle.std.specs.Prelude.{◌≡◌, ℕ, ◌<◌, List, [], ◌∷◌, ◌++◌, length}
use Rattle.zone_words.specs.Lines.{lines_behind, open_behind}

-- an LF ends this line, and that follows
pub record IsCut (bytes line rest : List ℕ) : Type 0 where
  pub lines : (begun : List ℕ) → lines_behind begun bytes ≡ (begun ++ line) ∷ lines_behind [] rest
  pub tail : (begun : List ℕ) → open_behind begun bytes ≡ open_behind [] rest
  pub less : length rest < length bytes

-- there is none
pub record IsUncut (bytes : List ℕ) : Type 0 where
  pub lines : (begun : List ℕ) → lines_behind begun bytes ≡ []
  pub tail : (begun : List ℕ) → open_behind begun bytes ≡ begun ++ bytes
