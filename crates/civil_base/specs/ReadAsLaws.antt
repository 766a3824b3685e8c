-- Each zoned text is read as the instant and the offset whose text it is.
use Rattle.std.specs.Prelude.{ℕ, ℤ, ◌≡◌, List, refl}
use Rattle.civil_base.specs.{Instants.{local_at}, Layout.{zoned_text}, Ranges.{IsInYears, IsOffset}, ReadAs.{IsReadAs}, TextLaws.{zoned_text-same}}

pub zoned_text-read : (t o : ℤ) → IsInYears (local_at t o) → IsOffset o → IsReadAs (zoned_text t o) t o
zoned_text-read t o years range = record {
  years = years;
  range = range;
  spelled = refl;
  only = λ u p years_too range_too same. zoned_text-same u p t o years_too range_too years range same;
}

-- a text names one instant and one offset
pub read-one : (text : List ℕ) (t o u p : ℤ) → IsReadAs text t o → IsReadAs text u p → (u ≡ t) × (p ≡ o)
read-one text t o u p one other = one.only u p other.years other.range other.spelled
