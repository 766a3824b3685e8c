use Rattle.std.{proofs.Common.{sym, ◌∙◌, ap}, specs.Bool.{then_some}}
use Rattle.zone_answers.proofs.CountLemmas.{count_read}
use Rattle.zone_answers.proofs.running.count_of.Goals as goal

pub returns-in_err-count : goal.returns-in_err-count
returns-in_err-count c =
    let read = count_read c.args.text.now c.parse.result c.parse.ensures.value.0 in
    c.from_residual.ensures ∙ rw (sym c.ok.ensures.value ∙ c.in_err-count.was) at read

pub returns : goal.returns
returns c =
    let read = count_read c.args.text.now c.parse.result c.parse.ensures.value.0 in
    c.then_some.ensures ∙ ap (λ b. then_some b c.in_ok-count.count) c.is_count.ensures
    ∙ rw (sym c.ok.ensures.value ∙ c.in_ok-count.was) at read
