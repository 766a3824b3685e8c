use Rattle.std.{proofs.Common.{◌≡◌, ◌++◌, to_z, of_z, to_z-of_z, w64, ap, ◌∙◌}, specs.Fmt.{signed_decimal}}
use Rattle.zone_texts.{specs.{Charts.{point_text, x_of, y_of}}, proofs.RangeLemmas.{four}}
use Rattle.zone_texts.proofs.drawing.add_point.Goals as goal

pub returns : goal.returns
unfolding point_text
returns g c =
    let view = g.Z.ReplyZone.view c.args.zone.now in
    let same : to_z w64 (of_z w64 c.args.second) ≡ c.args.second = to_z-of_z c.ranges.second in
    four c.args.into.now.items c.add_bytes.new.into.items c.add_x.new.into.items c.add_bytes-2.new.into.items c.add_y.new.into.items _ _ _ _
    c.in_ok-add_bytes.ensures.ok (c.in_ok-add_x.ensures ∙ ap (λ s. c.add_bytes.new.into.items ++ signed_decimal (x_of c.args.year s)) same)
    c.in_ok-add_bytes-2.ensures.ok (c.in_ok-add_y.ensures ∙ ap (λ s. c.add_bytes-2.new.into.items ++ signed_decimal (y_of view s)) same)
