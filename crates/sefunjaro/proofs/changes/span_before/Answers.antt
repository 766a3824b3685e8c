use Rattle.std.proofs.Common.{◌∙◌, to_z, of_z, to_z-of_z, w64, ap}
use Rattle.sefunjaro.{specs.Changes.{span_before}, proofs.ChangeLemmas.{before_is}}
use Rattle.sefunjaro.proofs.changes.span_before.Goals as goal

pub returns : goal.returns
returns g c =
    let set = g.S.SpanTable.seen c.args.set.now in
    c.span.ensures ∙ before_is set (to_z w64 (of_z w64 c.args.second)) c.entries_before.result c.entries_before.ensures
    ∙ ap (span_before set) (to_z-of_z c.ranges.second)
