use Rattle.std.{proofs.Common.{◌++◌, to_z-of_z, ap, ◌∙◌}, specs.Prelude.{codes}}
use Rattle.zone_texts.{specs.{Charts.{circle_text, point_text}}, proofs.RangeLemmas.{four}}
use Rattle.zone_texts.proofs.drawing.add_circle.Goals as goal

pub returns : goal.returns
unfolding circle_text
returns g c =
    let view = g.Z.ReplyZone.view c.args.zone.now in
    four c.args.into.now.items c.add_bytes.new.into.items c.add_bytes-2.new.into.items c.add_point.new.into.items c.add_bytes-3.new.into.items _ _ _ _
    c.in_ok-add_bytes.ensures.ok (c.in_ok-add_bytes-2.ensures.ok ∙ ap (λ t. c.add_bytes.new.into.items ++ t) c.text.ensures)
    (c.in_ok-add_point.ensures
    ∙ ap (λ s. c.add_bytes-2.new.into.items ++ point_text (codes "\" cx=\"") (codes "\" cy=\"") c.args.year view s) (to_z-of_z c.ranges.second))
    c.in_ok-add_bytes-3.ensures.ok
