use Rattle.std.{proofs.Common.{◌≡◌, ◌+◌, ◌-◌, ◌<◌, ◌++◌, length}, specs.Option.{ForSome}, specs.declared.cmp.Ordering.TheVariants.{Equal}}
use Rattle.tz_lookup.specs.{Sets.{schedule_of, order_of}, Scans.{spans_from, so_far}}
use Rattle.tz_lookup.proofs.lookups.first_local_spans_at.Given as goal

-- what was found and what is left to look at make the whole
abbrev pub invariant-loop-i : goal.invariant-loop-i
invariant-loop-i g l = record {
  within : ForSome l.first (λ k. k < l.i);
  lies : ForSome l.first (λ k. order_of (schedule_of (g.T.SpanTable.seen l.set)) k l.second ≡ Equal);
  exact :
      so_far l.first ++ spans_from (schedule_of (g.T.SpanTable.seen l.set)) l.second l.i (length (g.T.SpanTable.seen l.set).others + 1 - l.i)
      ≡ spans_from (schedule_of (g.T.SpanTable.seen l.set)) l.second 0 (length (g.T.SpanTable.seen l.set).others + 1);
}
