-- What is seen of a zone's answers.
use Rattle.std.specs.Prelude.{◌≡◌, ℕ, ℤ, Bool, List, length}
use Rattle.civil_base.specs.Instants.{seconds_of}
use Rattle.sefunjaro.specs.{Rooms.{filled}, declared.zone.InForce.{InForce}, declared.zone.Reading.{Reading}}

-- an abbreviation that is given with that kind of time stands in the room, as far as it fits, and its length is told
pub record IsNamed (given : List ℕ → Bool → Type 0) (found : InForce) (old new : List ℕ) : Type 0 where
  pub name : List ℕ
  pub is_given : given name found.is_saving
  pub length : found.name_length ≡ length name
  pub room : new ≡ filled name old

-- the second of an instant, and the offset in force
abbrev pub reading_of : ℤ × ℤ → Reading
reading_of shown = record { second = seconds_of shown.0; offset = shown.1 }
