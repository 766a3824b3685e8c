-- How many values there are of lines.
use Rattle.std.proofs.{Common.{◌≡◌, List, length, map}, lemmas.List.{length-map}}
use Rattle.zone_table.specs.{Values.{line_value}, declared.line.Line.{Line}}

pub length_read : (lines : List Line) → length (map line_value lines) ≡ length lines
length_read lines = length-map lines line_value
