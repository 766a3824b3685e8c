use Rattle.std.proofs.Common.{to_z-of_z, ap, ◌∙◌}
use Rattle.zone_texts.{specs.{Faults.{behind}, Charts.{titled_due}}, proofs.DueLemmas.{framed_at}}
use Rattle.zone_texts.proofs.drawing.add_titled.Goals as goal

pub returns-clause-ok : goal.returns-clause-ok
returns-clause-ok g c =
    framed_at c.args.into.now.items c.add_circle.new.into.items c.add_title.new.into.items _ _ _ _ c.in_ok-add_circle.ensures c.in_ok-add_title.ensures.ok
    c.in_ok-extend_from_slice.ensures.items
    ∙ ap (λ s. behind c.args.into.now.items (titled_due c.args.year (g.Z.ReplyZone.view c.args.zone.now) c.args.kind s))
    (to_z-of_z c.ranges.second)
