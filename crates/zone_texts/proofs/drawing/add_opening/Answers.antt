use Rattle.std.{proofs.Common.{◌++◌, ap, ◌∙◌}, specs.Prelude.{codes}}
use Rattle.zone_texts.{specs.{Charts.{head_text, line_text, opening_text}}, proofs.RangeLemmas.{four}}
use Rattle.zone_texts.proofs.drawing.add_opening.Goals as goal

pub returns : goal.returns
unfolding opening_text
returns g c =
    let line = line_text c.args.year (g.Z.ReplyZone.view c.args.zone.now.zone) in
    four c.args.into.now.items c.add_head.new.into.items c.add_bytes.new.into.items c.add_line.new.into.items c.add_bytes-2.new.into.items _ _ _ _
    c.in_ok-add_head.ensures c.in_ok-add_bytes.ensures.ok c.in_ok-add_line.ensures c.in_ok-add_bytes-2.ensures.ok
    ∙ ap (λ name. c.args.into.now.items ++ (((head_text c.args.number name ++ codes "</title>\n<path class=\"line\" d=\"") ++ line) ++ codes "\"/>\n"))
    c.as_bytes.ensures.value
