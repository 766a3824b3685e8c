use Rattle.std.proofs.Common.{◌≡◌, to_z, of_z, to_z-of_z, FitsSigned, w64, sym, ap, ◌∙◌, subst, rules}
use Rattle.tz_lookup.specs.{Sets.{shifts_of}, Spans.{IsCut}}
use Rattle.sefunjaro.proofs.ChangeLemmas.{saving_is}
use Rattle.sefunjaro.proofs.changes.saving_at.Goals as goal

pub returns : goal.returns
returns g c =
    let set = g.S.SpanTable.seen c.args.set.now in
    let same : to_z w64 (of_z w64 c.args.second) ≡ c.args.second = to_z-of_z c.ranges.second in
    let saving : FitsSigned w64 c.span.result.now.dst_offset = search rules in
    let cut = subst (λ s. IsCut (shifts_of set) c.span_in_force_at.result s) same c.span_in_force_at.ensures in
    to_z-of_z saving ∙ ap (λ span. span.dst_offset) c.span.ensures ∙ sym (saving_is set c.args.second c.span_in_force_at.result cut)
