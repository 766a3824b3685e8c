use Rattle.std.proofs.Common.{to_z-of_z, FitsSigned, w32, w64, length, ap, not, ◌∙◌, rules}
use Rattle.sefunjaro.proofs.ChangeLemmas.{entry_is}
use Rattle.sefunjaro.proofs.changes.entry_at.Goals as goal

pub returns : goal.returns
returns g c =
    let second : FitsSigned w64 c.time-second.result = search rules in
    let offset : FitsSigned w32 c.whole_seconds.result = search rules in
    let saving : FitsSigned w64 c.span-span.result.now.dst_offset = search rules in
    entry_is (g.S.SpanTable.seen c.args.set.now) c.args.place _ c.span-span.result.now c.span_before.result.now c.requires.within
    (to_z-of_z second ∙ c.time-second.ensures) (to_z-of_z offset ∙ c.whole_seconds.ensures.value ∙ c.offset_of.ensures) c.span-span.ensures
    (to_z-of_z saving) (ap length c.as_str.ensures) c.span_before.ensures (ap not c.is_same_span.ensures)
