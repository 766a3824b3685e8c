use Rattle.std.proofs.Common.{◌++◌, ◌∷◌, [], ap, sym, ◌∙◌, append_assoc}
use Rattle.sefunjaro.specs.Sources.{table_in}
use Rattle.zone_command.{specs.Streams.{is_fault, response_of}, proofs.PlainLemmas.{answered_as}}
use Rattle.zone_command.proofs.plain.PlainStreamResponder.respond.Goals as goal

pub returns-then-branch-clause-response : goal.returns-then-branch-clause-response
returns-then-branch-clause-response c =
    let added = c.in_ok-answer_again.ensures.answer c.if-branch.true in
    c.in_ok-push.ensures.items ∙ ap (λ t. t ++ 10 ∷ []) added.1 ∙ append_assoc c.args.output.now.items _ (10 ∷ [])
    ∙ ap (λ answer. c.args.output.now.items ++ response_of answer) (sym (answered_as (table_in c.args.self.now.source.now) c.args.request.now _ added.0))

pub returns-then-branch-clause-fault : goal.returns-then-branch-clause-fault
returns-then-branch-clause-fault c =
    let added = c.in_ok-answer_again.ensures.answer c.if-branch.true in
    sym (ap is_fault (answered_as (table_in c.args.self.now.source.now) c.args.request.now _ added.0))
