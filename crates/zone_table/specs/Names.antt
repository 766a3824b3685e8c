-- Names without regard to ASCII case, and lists of names with what they stand for.
use Rattle.std.specs.{Prelude.{ℕ, zero, suc, List, [], ◌∷◌, map, take, Bool, ◌||◌, Option, Some, None, bytes_eq, if◌then◌else◌}, Char.{to_ascii_lowercase}}

-- the text in ASCII lower case
abbrev pub lower : List ℕ → List ℕ
lower text = map to_ascii_lowercase text

-- the text is the short name or the full one, both of which are in lower case
abbrev pub is_name : List ℕ → List ℕ → List ℕ → Bool
is_name short full text = bytes_eq (lower text) short || bytes_eq (lower text) full

-- what the first name stands for that the text is, in full or as its first three letters
abbrev pub named : {A : Type 0} → List (List ℕ × A) → List ℕ → Option A
named [] text = None
named (entry ∷ more) text = if is_name (lower (take 3 entry.0)) (lower entry.0) text then Some entry.1 else named more text

-- the name at that place, from 0
abbrev pub name_at : {A : Type 0} → List (List ℕ × A) → ℕ → List ℕ
name_at [] n = []
name_at (entry ∷ more) zero = entry.0
name_at (entry ∷ more) (suc n) = name_at more n
