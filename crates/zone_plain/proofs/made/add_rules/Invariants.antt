use Rattle.std.proofs.Common.{map}
use Rattle.zone_table.specs.Values.{line_value}
use Rattle.zone_plain.{specs.ToldOffsets.{value_in}, proofs.MadeLemmas.{HasMade}}
use Rattle.zone_plain.proofs.made.add_rules.Given as goal

abbrev pub invariant-loop-index : goal.invariant-loop-index
invariant-loop-index l = HasMade l.fn.name l.fn.offset (map (value_in (map line_value l.fn.lines)) l.fn.places) l.fn.made.items l.made.items l.index
