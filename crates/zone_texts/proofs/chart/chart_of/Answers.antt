use Rattle.std.proofs.Common.{◌++◌, map, rules, ap, ◌∙◌}
use Rattle.zone_texts.{specs.{Charts.{drawing_due}, Frames.{each_numbered}, SeenZones.{named}}, proofs.DueLemmas.{chart_is, within}}
use Rattle.zone_texts.proofs.chart.chart_of.Goals as goal

pub returns-clause-ok : goal.returns-clause-ok
returns-clause-ok g c =
    let zones = map (named g.Z.ReplyZone.view) c.args.zones.now in
    let head = c.in_ok-text.text.items in
    let tail = c.in_ok-tail.tail.items in (
      head,
      tail,
      within head c.add_drawings.new.into.items c.extend_from_slice.new.self.items tail (each_numbered (drawing_due c.args.year) 0 zones) _
          (chart_is zones c.args.year (search rules) (search rules)) c.in_ok-add_drawings.ensures.ok
          (c.in_ok-extend_from_slice.ensures.items ∙ ap (λ t. c.add_drawings.new.into.items ++ t) c.deref.ensures.value),
    )
