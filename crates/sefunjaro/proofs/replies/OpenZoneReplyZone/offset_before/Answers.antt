use Rattle.std.proofs.Common.{◌≡◌, to_z, of_z, to_z-of_z, w64, ap, ◌∙◌}
use Rattle.sefunjaro.{specs.Zones.{spans_in}, specs.Changes.{span_before}, specs.Replies.{force_of}, proofs.ReplyLemmas.{until_is}}
use Rattle.sefunjaro.proofs.replies.OpenZoneReplyZone.offset_before.Goals as goal

pub returns : goal.returns
returns c =
    let same : to_z w64 (of_z w64 c.args.second) ≡ c.args.second = to_z-of_z c.ranges.second in
    c.offset_until.ensures ∙ (λ i. (force_of (span_before (c.new.ensures.seen i) (same i))).offset)
    ∙ ap (λ span. (force_of span).offset) (until_is (spans_in c.args.self.now) c.args.second)
