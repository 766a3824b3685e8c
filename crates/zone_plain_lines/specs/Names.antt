-- The names of rulesets in the plain form, whose RULES column says letters, hyphens and underscores alone.
use Rattle.std.specs.{Prelude.{ℕ, ◌+◌, ◌/◌, ◌%◌, ◌==◌, Bool, ◌||◌, List, [], ◌∷◌, ◌++◌, flat_map, if◌then◌else◌}, Char.{is_ascii_alphabetic}}
use Rattle.zone_line.specs.Fields.{is_ruleset_name}

-- an ASCII letter or `_`
abbrev pub is_letter : ℕ → Bool
is_letter byte = byte == 95 || is_ascii_alphabetic byte

-- four bits as a letter from a to p
abbrev pub letter : ℕ → ℕ
letter bits = 97 + bits

-- what stands for a byte of a name: a letter for itself, any other byte as a hyphen and two letters
abbrev pub byte_text : ℕ → List ℕ
byte_text byte = if is_letter byte then byte ∷ [] else 45 ∷ letter (byte / 16) ∷ letter (byte % 16) ∷ []

-- a name that RULES can say, or a mark, a hyphen and what stands for its bytes
unfoldable pub said_name : List ℕ → List ℕ → List ℕ
said_name mark name = if is_ruleset_name name then name else mark ++ 45 ∷ flat_map byte_text name
