-- The lines of a text of bytes.
use Rattle.std.specs.{Prelude.{ℕ, Bool, List, [], ◌∷◌, map, ◌==◌}, List.{slice_split}, Str.Lines.{strip_carriage_return}}

abbrev pub is_line_feed : ℕ → Bool
is_line_feed byte = byte == 10

-- a last empty piece is no line
abbrev pub without_last_empty : List (List ℕ) → List (List ℕ)
without_last_empty [] = []
without_last_empty ([] ∷ []) = []
without_last_empty (piece ∷ pieces) = piece ∷ without_last_empty pieces

-- the pieces between line feeds, each without the one carriage return at its end
unfoldable pub lines_of : List ℕ → List (List ℕ)
lines_of bytes = map strip_carriage_return (without_last_empty (slice_split is_line_feed bytes))
