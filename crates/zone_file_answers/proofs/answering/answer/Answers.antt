use Rattle.std.proofs.Common.{◌++◌, cond, None, Some, sym, ap, ◌∙◌}
use Rattle.tz_ever.specs.{Asked.{asked_recurrence, asked_set}, Recurrences.{zone_total}}
use Rattle.zone_answers.specs.{Asked.{asked}, Due.{answer_text, shown_at}, AskedLaws.{asks}}
use Rattle.zone_file_answers.{specs.Faults.{range}, specs.Requests.{request_of}, proofs.RefusalLemmas.{not_text_refused, bad_request_refused, refusal_is, line_is}}
use Rattle.zone_file_answers.proofs.answering.answer.Goals as goal

pub returns-in_default-clause-err : goal.returns-in_default-clause-err
returns-in_default-clause-err c = not_text_refused _ c.args.number c.args.line.now c.in_default.ensures.none

pub returns-in_default-read_request-clause-err : goal.returns-in_default-read_request-clause-err
returns-in_default-read_request-clause-err c =
    let text = c.in-Some.ensures.text in
    bad_request_refused _ c.args.number c.args.line.now c.in-Some.asked.now text.1 text.0 c.in_default-read_request.ensures

pub returns-in-Ok-true-clause-accepted : goal.returns-in-Ok-true-clause-accepted
returns-in-Ok-true-clause-accepted c =
    let reads = asks request_of c.args.line.now c.in-Some.asked.now (asked c.in-Some-read_request.request) c.in-Some.ensures.text.1 c.in-Some.ensures.text.0 c.in-Some-read_request.ensures in
    refusal_is (zone_total (asked_recurrence c.args.zone.now) (asked_set c.args.zone.now)) c.args.number c.args.line.now _ reads
    ∙ ap (λ b. cond b None (Some (range c.args.number))) (sym c.in-Ok-true.ensures.dates ∙ c.in-Ok-true.field-0-test)

pub returns-in-Ok-true-clause-text : goal.returns-in-Ok-true-clause-text
returns-in-Ok-true-clause-text c =
    let reads = asks request_of c.args.line.now c.in-Some.asked.now (asked c.in-Some-read_request.request) c.in-Some.ensures.text.1 c.in-Some.ensures.text.0 c.in-Some-read_request.ensures in
    c.in-Ok-true.ensures.line c.in-Ok-true.field-0-test
    ∙ ap (λ text. text ++ answer_text (shown_at (zone_total (asked_recurrence c.args.zone.now) (asked_set c.args.zone.now)) (asked c.in-Some-read_request.request))) c.clear.ensures.items
    ∙ sym (line_is (zone_total (asked_recurrence c.args.zone.now) (asked_set c.args.zone.now)) c.args.line.now _ reads)

pub returns-in-Ok-false-clause-err : goal.returns-in-Ok-false-clause-err
returns-in-Ok-false-clause-err c =
    let reads = asks request_of c.args.line.now c.in-Some.asked.now (asked c.in-Some-read_request.request) c.in-Some.ensures.text.1 c.in-Some.ensures.text.0 c.in-Some-read_request.ensures in
    refusal_is (zone_total (asked_recurrence c.args.zone.now) (asked_set c.args.zone.now)) c.args.number c.args.line.now _ reads
    ∙ ap (λ b. cond b None (Some (range c.args.number))) (sym c.in-Ok-false.ensures.dates ∙ c.in-Ok-false.field-0-test)
