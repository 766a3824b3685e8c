use Rattle.std.proofs.Common.{drop}
use Rattle.zone_plain_lines.proofs.QuoteLemmas.{IsSoFar}
use Rattle.zone_plain_lines.proofs.fields.lay_out.Given as goal

abbrev pub invariant-loop-byte : goal.invariant-loop-byte
invariant-loop-byte l = IsSoFar l.fn.line l.into.items l.place (drop l.byte-index l.fn.line)
