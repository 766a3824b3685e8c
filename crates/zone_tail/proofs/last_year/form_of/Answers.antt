use Rattle.std.proofs.Common.{to_z-of_z, ◌∙◌}
use Rattle.zone_tail.proofs.FormLemmas.{steady_form, other_form}
use Rattle.zone_tail.proofs.last_year.form_of.Goals as goal

pub returns-in-Steady : goal.returns-in-Steady
returns-in-Steady g c =
    let same = to_z-of_z c.ranges.offset ∙ c.requires.offset in
    steady_form (g.S.SpanTable.seen c.args.set.now) c.in-Steady.span (rw (same, c.in-Steady.is) at c.shape_of.ensures)

pub returns-in-Other : goal.returns-in-Other
returns-in-Other g c =
    let same = to_z-of_z c.ranges.offset ∙ c.requires.offset in
    other_form (g.S.SpanTable.seen c.args.set.now) (rw (same, c.in-Other.is) at c.shape_of.ensures)
