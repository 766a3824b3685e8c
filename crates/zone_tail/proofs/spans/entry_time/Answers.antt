use Rattle.std.proofs.Common.{ℤ, pos, w64, to_z-of_z, FitsSigned, rules, ap, ◌∙◌}
use Rattle.zone_tail.proofs.ShapeLemmas.{shift_is}
use Rattle.zone_tail.proofs.spans.entry_time.Goals as goal

pub returns : goal.returns
returns g c =
    let set = g.S.SpanTable.seen c.args.set.now in
    let fits : FitsSigned w64 c.time.result = search rules in
    to_z-of_z fits ∙ c.time.ensures ∙ ap (λ (s : ℤ × ℤ). s.0) (shift_is (pos 0, set.first) set.others c.args.number c.requires)
