use Rattle.std.proofs.Common.{ap, ◌∙◌, arith}
use Rattle.zone_spans.specs.declared.span.FixedTimespan.{FixedTimespan}
use Rattle.zone_tree.{specs.Contents.{has_mark}, proofs.EverLemmas.{mark_end, mark_found, mark_more}}
use Rattle.zone_tree.proofs.files.is_marked.Goals as goal

pub returns-then-has_mark : goal.returns-then-has_mark
returns-then-has_mark g c =
    mark_found (g.S.SpanTable.seen c.args.set.now) c.loop-number.number c.loop-number.invariant (omega (arith, c.entry_count-number-end.ensures.count))
    (c.if-has_mark.ensures ∙ ap has_mark c.as_str.ensures ∙ ap (λ (s : FixedTimespan). has_mark s.name) c.span.ensures)

pub loop-number-preserved : goal.loop-number-preserved
loop-number-preserved g c =
    mark_more (g.S.SpanTable.seen c.args.set.now) c.loop-number.number c.loop-number.invariant (omega (arith, c.entry_count-number-end.ensures.count))
    (c.if-has_mark.ensures ∙ ap has_mark c.as_str.ensures ∙ ap (λ (s : FixedTimespan). has_mark s.name) c.span.ensures)

pub returns : goal.returns
returns g c =
    mark_end (g.S.SpanTable.seen c.args.set.now) c.loop-number.number c.loop-number.invariant (omega (arith, c.entry_count-number-end.ensures.count)) _
    (c.has_mark-2.ensures ∙ ap has_mark c.as_str-2.ensures ∙ ap (λ (s : FixedTimespan). has_mark s.name) c.span-2.ensures)
