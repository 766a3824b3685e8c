use Rattle.std.{proofs.Common.{◌≡◌, to_z, of_z, to_z-of_z, w64, ◌∙◌}, proofs.lemmas.Result.{IfOk-weaker}}
use Rattle.tz_ever.specs.TablesShown.{table_of}
use Rattle.zone_texts.specs.{Forces.{force_shown}, declared.force.Force.{Force}}
use Rattle.sefunjaro.specs.{Replies.{force_of, span_on}, Zones.{spans_in}}
use Rattle.sefunjaro.proofs.replies.OpenZoneReplyZone.force_at.Goals as goal

pub returns : goal.returns
returns c =
    let same : to_z w64 (of_z w64 c.args.second) ≡ c.args.second = to_z-of_z c.ranges.second in
    let is : force_of (span_on (table_of c.new.result) (to_z w64 (of_z w64 c.args.second))) ≡ force_of (span_on (spans_in c.args.self.now) c.args.second) =
    λ i. force_of (span_on (c.new.ensures.seen i) (same i)) in
    IfOk-weaker c.force_on.result (λ (f : Force). force_shown f ≡ force_of (span_on (table_of c.new.result) (to_z w64 (of_z w64 c.args.second))))
    (λ (f : Force). force_shown f ≡ force_of (span_on (spans_in c.args.self.now) c.args.second)) (λ f e. e ∙ is) c.force_on.ensures
