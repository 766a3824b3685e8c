-- The lines of an input, as far as it has come.
use Rattle.std.specs.Prelude.{ℕ, ◌==◌, Bool, List, [], ◌∷◌, ◌++◌, if◌then◌else◌}

abbrev pub is_line_feed : ℕ → Bool
is_line_feed byte = byte == 10

-- the lines that an LF ends in these bytes, each without it; of the first some has come before
unfoldable pub lines_behind : List ℕ → List ℕ → List (List ℕ)
lines_behind begun [] = []
lines_behind begun (c ∷ bytes) =
    if is_line_feed c then begun ∷ lines_behind [] bytes else lines_behind (begun ++ c ∷ []) bytes

-- what has come of the line that no LF has ended yet
unfoldable pub open_behind : List ℕ → List ℕ → List ℕ
open_behind begun [] = begun
open_behind begun (c ∷ bytes) =
    if is_line_feed c then open_behind [] bytes else open_behind (begun ++ c ∷ []) bytes

-- the lines that are whole, and the open one, of all bytes from the beginning
abbrev pub whole_lines : List ℕ → List (List ℕ)
whole_lines bytes = lines_behind [] bytes

abbrev pub open_line : List ℕ → List ℕ
open_line bytes = open_behind [] bytes

-- the line that the end of the input ends, where one is open
abbrev pub last_line : List ℕ → List (List ℕ)
last_line [] = []
last_line (c ∷ line) = (c ∷ line) ∷ []

-- the lines of a whole input
abbrev pub lines_of : List ℕ → List (List ℕ)
lines_of input = whole_lines input ++ last_line (open_line input)
