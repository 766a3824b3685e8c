use Rattle.std.proofs.Common.{take}
use Rattle.tz_lookup.specs.Compact.{StandFor}
use Rattle.tz_lookup.proofs.compact_set.number_spans.Given as goal

-- the entries so far
abbrev pub invariant-loop-entry : goal.invariant-loop-entry
invariant-loop-entry l = StandFor l.set.first (take l.entry-index l.entry-items) l.kinds l.first l.times l.numbers
