use Rattle.std.proofs.Common.{◌≡◌, map, take}
use Rattle.zone_source.specs.Zones.{source_value}
use Rattle.zone_table.specs.Values.{line_value}
use Rattle.zone_plain_lines.proofs.said.lines_read.Given as goal

abbrev pub invariant-loop-place : goal.invariant-loop-place
invariant-loop-place l = map line_value l.read.items ≡ take l.place (map source_value l.fn.lines)
