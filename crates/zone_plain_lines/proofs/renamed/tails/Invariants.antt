use Rattle.std.{proofs.Common.{◌≡◌, map, take}, specs.Prelude.{flat_map}}
use Rattle.zone_plain_lines.specs.Marks.{behind}
use Rattle.zone_plain_lines.proofs.renamed.tails.Given as goal

-- what stands behind the byte in the names so far
abbrev pub invariant-loop-name : goal.invariant-loop-name
invariant-loop-name l = map (λ rest. rest.now) l.rests.items ≡ flat_map (λ name. behind l.fn.byte name.now) (take l.name-index l.fn.names)
