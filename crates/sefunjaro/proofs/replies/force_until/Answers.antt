use Rattle.std.proofs.{Common.{◌≡◌, to_z, of_z, to_z-of_z, w64, sym, ap, ◌∙◌}, lemmas.Result.{IfOk-weaker}}
use Rattle.zone_texts.specs.{Forces.{force_shown}, declared.force.Force.{Force}}
use Rattle.sefunjaro.{specs.Changes.{span_before}, specs.Replies.{force_of}, proofs.ChangeLemmas.{before_is}}
use Rattle.sefunjaro.proofs.replies.force_until.Goals as goal

pub force_by-requires : goal.force_by-requires
force_by-requires g c =
    let set = g.S.SpanTable.seen c.args.set.now in
    let same : to_z w64 (of_z w64 c.args.second) ≡ c.args.second = to_z-of_z c.ranges.second in
    let is = c.span.ensures ∙ before_is set (to_z w64 (of_z w64 c.args.second)) c.entries_before.result c.entries_before.ensures in
    c.offset_until.ensures ∙ sym (ap (λ span. (force_of span).offset) is)

pub returns : goal.returns
returns g c =
    let set = g.S.SpanTable.seen c.args.set.now in
    let same : to_z w64 (of_z w64 c.args.second) ≡ c.args.second = to_z-of_z c.ranges.second in
    let is = c.span.ensures ∙ before_is set (to_z w64 (of_z w64 c.args.second)) c.entries_before.result c.entries_before.ensures
    ∙ ap (span_before set) same in
    IfOk-weaker c.force_by.result (λ (f : Force). force_shown f ≡ force_of c.span.result.now)
    (λ (f : Force). force_shown f ≡ force_of (span_before set c.args.second)) (λ f e. e ∙ ap force_of is) c.force_by.ensures
