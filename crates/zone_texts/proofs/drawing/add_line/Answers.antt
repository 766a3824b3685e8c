use Rattle.std.{proofs.Common.{◌++◌, ℤ, FitsSigned, w64, to_z-of_z, rules, ap, ◌∙◌}, specs.{Prelude.{codes}, List.{flat_map}}}
use Rattle.zone_texts.{specs.{Charts.{line_text, point_text}}, proofs.RangeLemmas.{four}}
use Rattle.zone_texts.proofs.drawing.add_line.Goals as goal

pub returns : goal.returns
unfolding line_text
returns g c =
    let view = g.Z.ReplyZone.view c.args.zone.now in
    let fits : FitsSigned w64 c.year_begin.result = search rules in
    four c.args.into.now.items c.add_point.new.into.items c.add_steps.new.into.items c.add_bytes.new.into.items c.add_end.new.into.items _ _ _ _
    (c.in_ok-add_point.ensures ∙ ap (λ s. c.args.into.now.items ++ point_text (codes "M") (codes " ") c.args.year view s) (to_z-of_z fits ∙ c.year_begin.ensures))
    (c.in_ok-add_steps.ensures
    ∙ ap (λ l. c.add_point.new.into.items ++ flat_map (point_text (codes "H") (codes "V") c.args.year view) l) c.requires.changes)
    c.in_ok-add_bytes.ensures.ok c.in_ok-add_end.ensures
