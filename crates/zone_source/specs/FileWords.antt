-- What the words of a run over one file ask.
use Rattle.std.specs.{Prelude.{ℕ, List, [], ◌∷◌, map, String, string_bytes, Option, Some, None}, declared.alloc.Global.{Global}}

-- FILE, and nothing more
abbrev pub file_in : List (List ℕ) → Option (List ℕ)
file_in [] = None
file_in (file ∷ []) = Some file
file_in (file ∷ word ∷ words) = None

abbrev pub file_of : List (String Global) → Option (List ℕ)
file_of words = file_in (map string_bytes words)
