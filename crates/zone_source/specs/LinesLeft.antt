-- The lines that an iterator has still to give.
use Rattle.std.specs.Prelude.{ℕ, List}
use Rattle.zone_source.specs.{Lines.{lines_of}, declared.lines.Lines.{Lines}}

abbrev pub lines_left : Lines → List (List ℕ)
lines_left lines = lines_of lines.rest.now
