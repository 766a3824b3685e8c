use Rattle.std.proofs.Common.{IsTrue, sym, subst}
use Rattle.zone_spans.{specs.declared.span.FixedTimespan.{FixedTimespan}, specs.Bounds.{is_bounded_span}, proofs.EntryLemmas.{bounded_fixed}, proofs.SoundLemmas.{first_bounded}}
use Rattle.zone_spans.proofs.entries.first_span.Goals as goal

pub returns-in_ok-fixed_span-in-Some-2-clause-bounded : goal.returns-in_ok-fixed_span-in-Some-2-clause-bounded
returns-in_ok-fixed_span-in-Some-2-clause-bounded c =
    let line = c.in-Some.line.now in
    subst (λ (s : FixedTimespan). IsTrue (is_bounded_span s)) (sym c.in_ok-fixed_span-in-Some-2.ensures)
    (bounded_fixed line (first_bounded c.args.lines.now line c.in-Some.ensures.value c.requires.lines))
