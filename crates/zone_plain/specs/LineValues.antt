-- The values of the lines of a source, each in its place.
use Rattle.std.specs.Prelude.{ℕ, suc, List, [], ◌∷◌, Bool, false, is_some, Result, Ok, Err, if◌then◌else◌}
use Rattle.zone_table.specs.{Values.{LineValue, space, zone, continuation}, Results.{◌>>=◌}}
use Rattle.zone_plain_lines.specs.{declared.cause.PlainCause.{PlainCause}, LineFaults.{LineFault, at, numbered, onto}, Said.{if_said}}
use Rattle.zone_plain_lines.specs.declared.cause.PlainCause.TheVariants as cause
use Rattle.zone_source.specs.Lines.{lines_of}
pub use Rattle.zone_plain_lines.specs.Meant.{meant_by}
unfoldable pub use Rattle.zone_plain_lines.specs.Meant.{line_meaning}
use Rattle.zone_plain_lines.specs.Renamed.{mark_of, renamed}

-- whether a line of the zone has to follow, where one had to before
abbrev pub is_open_after : Bool → LineValue → Bool
is_open_after is_open space = is_open
is_open_after is_open (zone name info) = is_some info.time
is_open_after is_open (continuation info) = is_some info.time
is_open_after is_open _ = false

-- the values of lines from the nth on, as each is taken; a line that isn't there is told as the one after the last
unfoldable pub values_from : (LineValue → Result LineValue PlainCause) → Bool → ℕ → List (List ℕ) → Result (List LineValue) LineFault
values_from taken is_open n [] = if is_open then Err (at n cause.Continuation) else Ok []
values_from taken is_open n (line ∷ lines) = do
  meant ← numbered n (line_meaning is_open line)
  v ← numbered n (taken meant)
  onto v (values_from taken (is_open_after is_open meant) (suc n) lines)

-- what the lines of a source mean, in order, with its own names
unfoldable pub meant_in : List ℕ → Result (List LineValue) LineFault
meant_in source = values_from Ok false 1 (lines_of source)

-- these values, or none where one is refused
abbrev pub known : Result (List LineValue) LineFault → List LineValue
known (Ok values) = values
known (Err fault) = []

-- the mark of a source, with which no name of a ruleset begins; of one that is refused nothing is written
abbrev pub mark_in : List ℕ → List ℕ
mark_in source = mark_of (known (meant_in source))

-- a line with its ruleset by its name in the plain form, in a source of that mark, if that form can say it
abbrev pub named : List ℕ → LineValue → Result LineValue PlainCause
named mark v = if_said (renamed mark v)

-- the values of a source's lines, in order, with their rulesets by their names in the plain form
unfoldable pub values_in : List ℕ → Result (List LineValue) LineFault
values_in source = values_from (named (mark_in source)) false 1 (lines_of source)
