use Rattle.std.proofs.{Common.{◌≡◌, to_z, of_z, to_z-of_z, w64, sym, ap, ◌∙◌}, lemmas.Result.{IfOk-weaker}}
use Rattle.zone_texts.specs.{Forces.{force_shown}, declared.force.Force.{Force}}
use Rattle.sefunjaro.{specs.Replies.{force_of, span_on}, proofs.ChangeLemmas.{on_is}}
use Rattle.sefunjaro.proofs.replies.force_on.Goals as goal

pub force_by-requires : goal.force_by-requires
force_by-requires g c =
    let set = g.S.SpanTable.seen c.args.set.now in
    let same : to_z w64 (of_z w64 c.args.second) ≡ c.args.second = to_z-of_z c.ranges.second in
    let is = c.span.ensures ∙ sym (on_is set c.args.second c.span_in_force_at.result (rw same at c.span_in_force_at.ensures)) in
    c.offset_on.ensures ∙ ap (λ s. (force_of (span_on set s)).offset) same ∙ sym (ap (λ span. (force_of span).offset) is)

pub returns : goal.returns
returns g c =
    let set = g.S.SpanTable.seen c.args.set.now in
    let is = c.span.ensures ∙ sym (on_is set c.args.second c.span_in_force_at.result (rw (to_z-of_z c.ranges.second) at c.span_in_force_at.ensures)) in
    IfOk-weaker c.force_by.result (λ (f : Force). force_shown f ≡ force_of c.span.result.now)
    (λ (f : Force). force_shown f ≡ force_of (span_on set c.args.second)) (λ f e. e ∙ ap force_of is) c.force_by.ensures
