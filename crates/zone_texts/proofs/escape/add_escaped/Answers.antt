use Rattle.zone_texts.{specs.Escapes.{escaped, escaped_text}, proofs.RangeLemmas.{all_items, item_more}}
use Rattle.zone_texts.proofs.escape.add_escaped.Goals as goal

pub loop-byte-preserved : goal.loop-byte-preserved
loop-byte-preserved c =
    item_more escaped c.args.into.now.items c.loop-byte.into.items _ c.args.text.now c.loop-byte.byte-index 0 c.loop-byte-test.true
    c.loop-byte.invariant c.in_ok-add_escaped_byte.ensures

pub returns : goal.returns
unfolding escaped_text
returns c =
    all_items escaped c.args.into.now.items c.loop-byte.into.items c.args.text.now c.loop-byte.byte-index c.loop-byte-test.false
    c.loop-byte.invariant
