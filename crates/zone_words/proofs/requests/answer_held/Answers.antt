use Rattle.std.proofs.Common.{◌≡◌, ◌∙◌, ◌++◌, ap, subst, OnOk, IfOk, Bool}
use Rattle.zone_words.{proofs.LineLemmas.{answer_short, fails_short}, specs.Replies.{answer, fails, longest}}
use Rattle.zone_words.proofs.requests.answer_held.Goals as goal

pub returns-clause-answer : goal.returns-clause-answer
returns-clause-answer g c =
    let replies = g.R.Responder.replies c.args.responder.now in
    let line = c.as_bytes-2.ensures.bytes ∙ c.add.ensures in
    subst (λ answered. OnOk c.answer_line-fault.result (c.answer_line-fault.new.output.items ≡ c.args.output.now.items ++ answered))
    (ap (answer longest replies) line ∙ answer_short longest replies (c.args.held.now ++ c.args.more.now)) c.answer_line-fault.ensures.answer

pub returns-clause-fault : goal.returns-clause-fault
returns-clause-fault g c =
    let replies = g.R.Responder.replies c.args.responder.now in
    let line = c.as_bytes-2.ensures.bytes ∙ c.add.ensures in
    subst (λ (is : Bool). IfOk c.answer_line-fault.result (λ fault. fault ≡ is))
    (ap (fails longest replies) line ∙ fails_short longest replies (c.args.held.now ++ c.args.more.now)) c.answer_line-fault.ensures.fault
