use Rattle.std.{proofs.Common.{◌≡◌, map, take}, specs.Prelude.{flat_map}}
use Rattle.zone_table.specs.Values.{line_value}
use Rattle.zone_plain_lines.specs.{Marks.{behind}, Renamed.{ruleset_of}}
use Rattle.zone_plain_lines.proofs.renamed.mark_of.Given as goal

-- what stands behind the `_` in the names so far
abbrev pub invariant-loop-line : goal.invariant-loop-line
invariant-loop-line l = map (λ name. name.now) l.names.items ≡ flat_map (λ line. behind 95 (ruleset_of (line_value line))) (take l.line-index l.fn.lines)
