use Rattle.std.proofs.Common.{◌+◌, map, drop}
use Rattle.zone_outside.specs.Limit.{text_limit}
use Rattle.zone_table.specs.Values.{line_value}
use Rattle.zone_plain.{specs.Shown.{text_in}, proofs.OffsetStageLemmas.{HasWritten}}
use Rattle.zone_plain.proofs.offsets.write_lines.Given as goal

abbrev pub invariant-loop-place : goal.invariant-loop-place
invariant-loop-place l =
    HasWritten text_limit (map line_value l.fn.lines) l.pairs l.made.items (text_in l.out) (l.place + 1) (drop l.place (map line_value l.fn.lines))
