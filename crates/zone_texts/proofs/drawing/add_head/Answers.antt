use Rattle.zone_texts.{specs.{Charts.{head_text}}, proofs.RangeLemmas.{four}}
use Rattle.zone_texts.proofs.drawing.add_head.Goals as goal

pub returns : goal.returns
unfolding head_text
returns c =
    four c.args.into.now.items c.add_bytes.new.into.items c.add_natural.new.into.items c.add_bytes-2.new.into.items c.add_escaped.new.into.items _ _ _ _
    c.in_ok-add_bytes.ensures.ok c.in_ok-add_natural.ensures c.in_ok-add_bytes-2.ensures.ok c.in_ok-add_escaped.ensures
