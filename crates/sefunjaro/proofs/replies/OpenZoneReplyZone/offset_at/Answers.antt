use Rattle.std.proofs.Common.{◌≡◌, to_z, of_z, to_z-of_z, w64, ◌∙◌}
use Rattle.sefunjaro.specs.Replies.{force_of, span_on}
use Rattle.sefunjaro.proofs.replies.OpenZoneReplyZone.offset_at.Goals as goal

pub returns : goal.returns
returns c =
    let same : to_z w64 (of_z w64 c.args.second) ≡ c.args.second = to_z-of_z c.ranges.second in
    c.offset_on.ensures ∙ (λ i. (force_of (span_on (c.new.ensures.seen i) (same i))).offset)
