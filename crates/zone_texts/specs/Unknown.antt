-- What is said of a word that is no name.
use Rattle.std.specs.Prelude.{ℕ, zero, suc, List, [], ◌∷◌, ◌++◌, length, codes}

-- between a name and so many others
abbrev pub separator : ℕ → List ℕ
separator zero = []
separator (suc zero) = codes " or "
separator (suc (suc n)) = codes ", "

-- names with ` or ` between the last two, and commas before
abbrev pub choices_text : List (List ℕ) → List ℕ
choices_text [] = []
choices_text (name ∷ names) = name ++ separator (length names) ++ choices_text names

abbrev pub question_text : List (List ℕ) → List ℕ
question_text [] = []
question_text (name ∷ names) = codes "; did you mean " ++ choices_text (name ∷ names) ++ codes "?"

-- no zone has this name, and the names that may have been meant
unfoldable pub unknown_text : List (List ℕ) → List ℕ
unknown_text near = codes "no zone has this name" ++ question_text near
