-- What a zoned text is read as.
use Rattle.std.specs.Prelude.{ℕ, ◌≡◌, List, ℤ}
use Rattle.civil_base.specs.{Instants.{local_at}, Layout.{zoned_text}, Ranges.{IsInYears, IsOffset}}

-- the text names the instant t and the offset o: it is their zoned text, their local date lies in the years, and no other instant
-- or offset has it
pub record IsReadAs (text : List ℕ) (t o : ℤ) : Type 0 where
  pub years : IsInYears (local_at t o)
  pub range : IsOffset o
  pub spelled : zoned_text t o ≡ text
  pub only : (u p : ℤ) → IsInYears (local_at u p) → IsOffset p → zoned_text u p ≡ text → (u ≡ t) × (p ≡ o)
