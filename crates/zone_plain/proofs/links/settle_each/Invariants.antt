use Rattle.std.proofs.Common.{map}
use Rattle.zone_table.specs.Values.{line_value}
use Rattle.zone_plain.proofs.StageLemmas.{Settling}
use Rattle.zone_plain.proofs.links.settle_each.Given as goal

abbrev pub invariant-loop-place : goal.invariant-loop-place
invariant-loop-place l = Settling l.declared l.seen l.count (map line_value l.fn.lines) (map line_value l.led.items) l.place l.size
