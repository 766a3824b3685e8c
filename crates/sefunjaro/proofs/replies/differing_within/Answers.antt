use Rattle.std.proofs.{Common.{◌≡◌, length, to_z, of_z, to_z-of_z, w64, ap, sym, ◌∙◌}, lemmas.Result.{IfOk-weaker}}
use Rattle.sefunjaro.{specs.Changes.{window}, specs.Replies.{differing}, specs.Zones.{spans_in}, proofs.ReplyLemmas.{filled_all}}
use Rattle.sefunjaro.proofs.replies.differing_within.Goals as goal

pub returns : goal.returns
returns c =
    let from : to_z w64 (of_z w64 c.args.from) ≡ c.args.from = to_z-of_z c.ranges.from in
    let to : to_z w64 (of_z w64 c.args.to) ≡ c.args.to = to_z-of_z c.ranges.to in
    let spans = spans_in c.args.zone.now in
    let same : window spans (to_z w64 (of_z w64 c.args.from)) (to_z w64 (of_z w64 c.args.to)) ≡ window spans c.args.from c.args.to =
    (λ i. window spans (from i) (to i)) in
    let size = c.requires ∙ sym (ap length same) in
    IfOk-weaker c.differing.result (λ v. v.items ≡ differing c.changes.new.room) (λ v. v.items ≡ differing (window spans c.args.from c.args.to))
    (λ v e. e ∙ ap differing (c.changes.ensures.room ∙ filled_all _ _ size ∙ same)) c.differing.ensures
