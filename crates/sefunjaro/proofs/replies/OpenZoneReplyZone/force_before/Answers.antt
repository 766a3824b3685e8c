use Rattle.std.{proofs.Common.{◌≡◌, pos, ◌-ℤ◌, to_z, of_z, to_z-of_z, w64, ap, ◌∙◌}, proofs.lemmas.Result.{IfOk-weaker}}
use Rattle.tz_ever.specs.TablesShown.{table_of}
use Rattle.zone_texts.specs.{Forces.{force_shown}, declared.force.Force.{Force}}
use Rattle.sefunjaro.{specs.Changes.{span_before}, specs.Replies.{force_of, span_on}, specs.Zones.{spans_in}, proofs.ReplyLemmas.{until_is}}
use Rattle.sefunjaro.proofs.replies.OpenZoneReplyZone.force_before.Goals as goal

pub returns : goal.returns
returns c =
    let same : to_z w64 (of_z w64 c.args.second) ≡ c.args.second = to_z-of_z c.ranges.second in
    let here : force_of (span_before (table_of c.new.result) (to_z w64 (of_z w64 c.args.second))) ≡ force_of (span_before (spans_in c.args.self.now) c.args.second) =
    λ i. force_of (span_before (c.new.ensures.seen i) (same i)) in
    let is = here ∙ ap force_of (until_is (spans_in c.args.self.now) c.args.second) in
    IfOk-weaker c.force_until.result (λ (f : Force). force_shown f ≡ force_of (span_before (table_of c.new.result) (to_z w64 (of_z w64 c.args.second))))
    (λ (f : Force). force_shown f ≡ force_of (span_on (spans_in c.args.self.now) (c.args.second -ℤ pos 1))) (λ f e. e ∙ is) c.force_until.ensures
