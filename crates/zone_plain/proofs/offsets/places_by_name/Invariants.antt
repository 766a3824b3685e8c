use Rattle.std.proofs.Common.{map}
use Rattle.zone_table.specs.Values.{line_value}
use Rattle.zone_plain.proofs.GroupLemmas.{HasGrouped}
use Rattle.zone_plain.proofs.offsets.places_by_name.Given as goal

abbrev pub invariant-loop-place : goal.invariant-loop-place
invariant-loop-place l = HasGrouped (map line_value l.fn.lines) l.groups l.place
