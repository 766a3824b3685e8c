-- The line of a string.
use Rattle.std.specs.{Prelude.{ℕ, List, ◌++◌, Option, Some, None, ℤ, codes}, Fmt.{signed_decimal}}

-- the second from which on it agrees, or `all`
abbrev pub from_word : Option ℤ → List ℕ
from_word None = codes "all"
from_word (Some second) = signed_decimal second

abbrev pub tail_line : Option ℤ → List ℕ → List ℕ
tail_line from text = from_word from ++ codes " " ++ text ++ codes "\n"
