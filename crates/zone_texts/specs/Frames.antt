-- A text that is due between two others.
use Rattle.std.specs.Prelude.{◌≡◌, ℕ, suc, List, [], ◌∷◌, ◌++◌, Ok, Err}
use Rattle.zone_texts.specs.Faults.{Due, followed}

abbrev pub framed : List ℕ → Due → List ℕ → Due
framed head (Ok text) tail = Ok (head ++ (text ++ tail))
framed head (Err fault) tail = Err fault

-- what is due of each item by its number, one behind another, or the first fault
unfoldable pub each_numbered : {A : Type 0} → (ℕ → A → Due) → ℕ → List A → Due
each_numbered due n [] = Ok []
each_numbered due n (x ∷ xs) = followed (due n x) (each_numbered due (suc n) xs)

-- the text has what is due between two others
abbrev pub IsWithin : Due → List ℕ → Type 0
IsWithin due text = (head : List ℕ) × (tail : List ℕ) × (framed head due tail ≡ Ok text)
