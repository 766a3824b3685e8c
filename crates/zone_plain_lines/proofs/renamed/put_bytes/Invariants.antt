use Rattle.std.{proofs.Common.{◌≡◌, take, ◌++◌}, specs.Prelude.{flat_map, string_bytes}}
use Rattle.zone_plain_lines.specs.Names.{byte_text}
use Rattle.zone_plain_lines.proofs.renamed.put_bytes.Given as goal

-- what stands for the bytes so far
abbrev pub invariant-loop-byte : goal.invariant-loop-byte
invariant-loop-byte l = string_bytes l.text ≡ string_bytes l.fn.text ++ flat_map byte_text (take l.byte-index l.fn.name)
