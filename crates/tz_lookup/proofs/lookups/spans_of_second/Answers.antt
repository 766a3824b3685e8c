use Rattle.std.{proofs.Common.{length, ℤ, w64, to_z, of_z, sym, ap, ◌∙◌, ◌≡◌, ◌+◌, ◌-◌}, proofs.lemmas.Int.{to_z-of_z}, specs.Prelude.{take, ℕ}}
use Rattle.tz_lookup.{proofs.{SetLemmas.{count_same}, GivenLemmas.{each_at}, Halves.{no_step}, ScanLemmas.{first_totals}}, specs.{Answers.{listed}, Scans.{spans_from}, Sets.{schedule_of}}}
use Rattle.tz_lookup.proofs.lookups.spans_of_second.Goals as goal

pub returns-else-orderly-clause-exact : goal.returns-else-orderly-clause-exact
returns-else-orderly-clause-exact g c = λ x at.
    let zone = schedule_of (g.T.SpanTable.seen c.args.set.now) in
    let s : ℤ = to_z w64 (of_z w64 c.args.second) in
    let same : s ≡ c.args.second = to_z-of_z w64 c.args.second c.ranges.second in
    first_totals zone x s (listed c.first_local_spans_at.result) (at ∙ sym same) c.requires.accepted
    (c.first_local_spans_at.ensures.exact ∙ ap (λ (n : ℕ). take 2 (spans_from zone s 0 (n + 1))) (sym (count_same (g.T.SpanTable.seen c.args.set.now))))

pub returns-else-orderly-clause-lies : goal.returns-else-orderly-clause-lies
returns-else-orderly-clause-lies g c =
    each_at (g.T.SpanTable.seen c.args.set.now) (to_z-of_z w64 c.args.second c.ranges.second) c.first_local_spans_at.result
    c.first_local_spans_at.ensures.lies

pub returns-else-orderly-clause-cost : goal.returns-else-orderly-clause-cost
returns-else-orderly-clause-cost g c = no_step c.args.steps.now (c.args.high + 1 - c.args.low)
