-- Words as they are told: no byte of one breaks the line or the quotes around it.
use Rattle.std.specs.{Prelude.{ℕ, ◌+◌, ◌/◌, ◌%◌, ◌==◌, ◌||◌, List, [], ◌∷◌, ◌++◌, codes, nat_lt, if◌then◌else◌}, List.{flat_map}}

abbrev pub hex_digit : ℕ → ℕ
hex_digit n = if nat_lt n 10 then 48 + n else 87 + n

-- a quote and a backslash behind a backslash, and each byte that shows no character as an escape
abbrev pub told_byte : ℕ → List ℕ
told_byte c =
    if c == 34 || c == 92 then 92 ∷ c ∷ []
    else (if c == 10 then codes "\\n" else (if c == 9 then codes "\\t"
    else (if nat_lt c 32 || c == 127 then codes "\\x" ++ hex_digit (c / 16) ∷ hex_digit (c % 16) ∷ [] else c ∷ [])))

abbrev pub told_word : List ℕ → List ℕ
told_word = flat_map told_byte
