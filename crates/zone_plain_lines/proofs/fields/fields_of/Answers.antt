use Rattle.std.{proofs.Common.{ap, ◌∙◌, lit<}, specs.Prelude.{filter}, specs.Str.Iter.{split_text, split_has_more, split_pattern}, proofs.lemmas.Iterator.Consumers.{YieldsList-end}, proofs.lemmas.Iterator.Splits.{YieldsList-from_str_split}}
use Rattle.zone_plain_lines.specs.Quotes.{pieces, is_text}
use Rattle.zone_plain_lines.proofs.fields.fields_of.Goals as goal

pub returns : goal.returns
unfolding pieces
returns c =
    let start = c.into_iter-piece-iterator.ensures.into_iter_gives in
    let split = c.split-piece-items.ensures in
    let t = YieldsList-end (YieldsList-from_str_split 10 c.args.text.now (lit< tt)
    (ap split_text start ∙ split.text) (ap split_has_more start ∙ split.has_more) (ap split_pattern start ∙ split.pattern))
    c.loop-piece.yielded _ c.loop-piece.yielded_by _ _ c.in-None.is c.next.ensures.steps in
    c.loop-piece.invariant ∙ ap (filter is_text) t.0
