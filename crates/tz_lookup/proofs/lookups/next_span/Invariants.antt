use Rattle.std.proofs.Common.{◌≡◌, ◌+◌, ◌-◌, length}
use Rattle.tz_lookup.specs.{Sets.{schedule_of}, Scans.{spans_from}}
use Rattle.tz_lookup.proofs.lookups.next_span.Given as goal

-- none was passed over
abbrev pub invariant-loop-i : goal.invariant-loop-i
invariant-loop-i g l =
    spans_from (schedule_of (g.T.SpanTable.seen l.set)) l.second l.from (length (g.T.SpanTable.seen l.set).others + 1 - l.from)
    ≡ spans_from (schedule_of (g.T.SpanTable.seen l.set)) l.second l.i (length (g.T.SpanTable.seen l.set).others + 1 - l.i)
