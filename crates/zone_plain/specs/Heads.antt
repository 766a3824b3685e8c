-- The first line of what is written, which names the source's release.
use Rattle.std.specs.{Prelude.{ℕ, List, [], ◌∷◌, ◌++◌, Bool, ◌&&◌, Option, Some, None, Result, Ok, Err, if◌then◌else◌}, Str.{is_utf8}}
use Rattle.zone_line.specs.LineValues.{value}
use Rattle.zone_table.specs.Values.{LineValue, space}
use Rattle.zone_plain_lines.specs.declared.cause.PlainCause.TheVariants as cause
use Rattle.zone_plain_lines.specs.{LineFaults.{LineFault, at}, Said.{is_read_as}}
use Rattle.zone_source.specs.Releases.{line_naming, release_of}

-- the line is read as one that says nothing
unfoldable pub is_silent : List ℕ → Bool
is_silent line = is_utf8 line && is_read_as space (value line)

abbrev pub head_with : Option (List ℕ) → Result (List ℕ) LineFault
head_with None = Ok []
head_with (Some release) = if is_silent (line_naming release) then Ok (line_naming release ++ 10 ∷ []) else Err (at 1 cause.Unsayable)

-- the line that names the source's release, if it names one, which has to say nothing else; a source names it by its first line
unfoldable pub head_of : List ℕ → Result (List ℕ) LineFault
head_of source = head_with (release_of source)

-- what that line says
abbrev pub head_values : Option (List ℕ) → List LineValue
head_values None = []
head_values (Some release) = space ∷ []
