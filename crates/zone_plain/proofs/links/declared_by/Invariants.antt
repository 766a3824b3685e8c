use Rattle.std.proofs.Common.{map, take}
use Rattle.zone_table.specs.Values.{line_value}
use Rattle.zone_plain.specs.Stands.{IsDeclared}
use Rattle.zone_plain.proofs.links.declared_by.Given as goal

abbrev pub invariant-loop-line : goal.invariant-loop-line
invariant-loop-line l = IsDeclared l.declared (take l.line-index (map line_value l.fn.lines))
