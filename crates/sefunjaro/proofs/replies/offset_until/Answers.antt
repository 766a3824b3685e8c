use Rattle.std.proofs.{Common.{to_z, of_z, to_z-of_z, w64, ap, ◌∙◌, arith}, lemmas.List.{length-map}}
use Rattle.zone_spans.specs.Entries.{total}
use Rattle.tz_lookup.specs.Sets.{shift_of}
use Rattle.sefunjaro.{specs.Changes.{span_before}, proofs.ChangeLemmas.{before_is}, proofs.ReplyLemmas.{total_is}}
use Rattle.sefunjaro.proofs.replies.offset_until.Goals as goal

pub returns : goal.returns
returns g c =
    let set = g.S.SpanTable.seen c.args.set.now in
    let k = c.entries_before.result in
    let parted = c.entries_before.ensures in
    c.offset_of.ensures ∙ total_is set k (omega (arith, parted.within, length-map set.others shift_of))
    ∙ ap total (before_is set (to_z w64 (of_z w64 c.args.second)) k parted ∙ ap (span_before set) (to_z-of_z c.ranges.second))
