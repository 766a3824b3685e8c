use Rattle.std.proofs.{Common.{◌≡◌, to_z, of_z, to_z-of_z, w64, sym, ap, ◌∙◌, subst, arith}, lemmas.List.{length-map}}
use Rattle.zone_spans.specs.Entries.{total}
use Rattle.tz_lookup.specs.{Sets.{shift_of, shifts_of}, Spans.{IsCut}}
use Rattle.sefunjaro.proofs.{ChangeLemmas.{on_is}, ReplyLemmas.{total_is}}
use Rattle.sefunjaro.proofs.replies.offset_on.Goals as goal

pub returns : goal.returns
returns g c =
    let set = g.S.SpanTable.seen c.args.set.now in
    let k = c.span_in_force_at.result in
    let same : to_z w64 (of_z w64 c.args.second) ≡ c.args.second = to_z-of_z c.ranges.second in
    let cut = subst (λ s. IsCut (shifts_of set) k s) same c.span_in_force_at.ensures in
    c.offset_of.ensures ∙ total_is set k (omega (arith, cut.within, length-map set.others shift_of)) ∙ ap total (sym (on_is set c.args.second k cut))
