use Rattle.std.{proofs.Common.{◌≡◌, ◌++◌, length, map}, specs.Prelude.{string_bytes}}
use Rattle.zone_plain_lines.specs.Marks.{ending}
use Rattle.zone_plain_lines.proofs.renamed.put_ending.Given as goal

-- the letters so far and those of the names that are left
abbrev pub invariant-loop-alloc : goal.invariant-loop-alloc
invariant-loop-alloc l = string_bytes l.mark ++ ending (map (λ name. name.now) l.left.items)
    ≡ string_bytes l.fn.mark ++ ending (map (λ name. name.now) l.fn.names.items)

abbrev pub decreases-loop-alloc : goal.decreases-loop-alloc
decreases-loop-alloc l = length (map (λ name. name.now) l.left.items)
