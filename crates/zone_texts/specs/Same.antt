-- Texts without regard to the case of ASCII letters.
use Rattle.std.specs.{Prelude.{ℕ, List, [], ◌∷◌, length, take, Bool, ◌||◌}, Str.{str_eq_ignore_ascii_case}}

abbrev pub same : List ℕ → List ℕ → Bool
same = str_eq_ignore_ascii_case

abbrev pub begins_so : List ℕ → List ℕ → Bool
begins_so text word = same (take (length word) text) word

-- the text has the word in it: it begins so, or has it behind its first byte
abbrev pub has_word : List ℕ → List ℕ → Bool
has_word [] word = begins_so [] word
has_word (c ∷ text) word = begins_so (c ∷ text) word || has_word text word
