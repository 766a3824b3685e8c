-- Why words ask nothing.
use Rattle.std.specs.Prelude.{ℕ, List, Option, None, Result, Ok, Err}
use Rattle.zone_words.specs.declared.fault.WordCause.{WordCause}

-- the word at fault, the one behind it where both are one text, and why
pub record Fault : Type 0 where
  pub word : List ℕ
  pub more : Option (List ℕ)
  pub cause : WordCause

abbrev pub Reading : Type 0 → Type 0
Reading A = Result A Fault

infixl 10 ◌>>=◌
abbrev pub ◌>>=◌ : {A B : Type 0} → Reading A → (A → Reading B) → Reading B
◌>>=◌ (Ok x) next = next x
◌>>=◌ (Err e) next = Err e

-- the fault of one word
abbrev pub wrong : {A : Type 0} → List ℕ → WordCause → Reading A
wrong word cause = Err (record { word = word; more = None; cause = cause })
