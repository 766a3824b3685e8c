use Rattle.std.proofs.Common.{◌∙◌, ◌&&◌}
use Rattle.zone_spans.{specs.GoesOn.{are_cycle_later, is_apart}, proofs.GoesOnLemmas.{kept_is}}
use Rattle.zone_spans.proofs.turns.has_same_ends.Goals as goal

pub returns : goal.returns
returns c =
    let lines = c.args.lines.now in
    let here = kept_is 300 lines c.args.entries c.as_slice-here.result.now c.requires.entries (c.as_slice-here.ensures ∙ c.in_ok-keep.ensures.kept) in
    let there = kept_is 700 lines c.in_ok-there.there c.as_slice.result.now c.in_ok-there.ensures.raw
    (c.as_slice.ensures ∙ c.in_ok-keep-2.ensures.kept) in
    (λ i. c.are_cycle_later.ensures i && c.is_apart.ensures i)
    ∙ (λ i. are_cycle_later (there i) (here i) && is_apart (here i) c.args.cycle.now)
