use Rattle.std.proofs.{Common.{◌≡◌, ℕ, ◌+◌, ◌-◌, ◌∷◌, length, w64, arith, ◌∙◌, subst}, lemmas.Int.{to_z-of_z}}
use Rattle.tz_lookup.{specs.{Sets.{schedule_of}, Scans.{spans_from}}, proofs.{OrderLemmas.{if_false}, ScanLemmas.{step_takes, step_skips}}}
use Rattle.tz_lookup.proofs.lookups.next_span.Goals as goal

pub returns-then-contains-clause-next : goal.returns-then-contains-clause-next
returns-then-contains-clause-next g c =
    let zone = schedule_of (g.T.SpanTable.seen c.args.set.now) in
    let count : ℕ = length (g.T.SpanTable.seen c.args.set.now).others + 1 in
    let i = c.loop-i.i in
    subst (λ y. spans_from zone y c.args.from (count - c.args.from) ≡ i ∷ spans_from zone y (i + 1) (count - (i + 1)))
    (to_z-of_z w64 c.args.second c.ranges.second)
    (c.loop-i.invariant ∙ step_takes zone _ count i (omega (arith, c.span_count-i-end.ensures)) (c.contains.ensures.0 c.if-contains.true))

pub loop-i-preserved : goal.loop-i-preserved
loop-i-preserved g c =
    let count : ℕ = length (g.T.SpanTable.seen c.args.set.now).others + 1 in
    c.loop-i.invariant
    ∙ step_skips (schedule_of (g.T.SpanTable.seen c.args.set.now)) _ count c.loop-i.i (omega (arith, c.span_count-i-end.ensures))
    (if_false c.contains.result c.contains.ensures.1 c.if-contains.false)
