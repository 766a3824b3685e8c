use Rattle.std.{proofs.Common.{subst}, specs.Prelude.{codes}}
use Rattle.sefunjaro.specs.Sources.{table_in}
use Rattle.zone_command.{specs.{Answers.{Answer}, Plain.{plain_answer}, Told.{IsPut}}, proofs.RequestLemmas.{no_plain_text, plain_text, refused_told}}
use Rattle.zone_command.proofs.plain.PlainStream.answer_line.Goals as goal

pub returns-in-Ok-clause-answer : goal.returns-in-Ok-clause-answer
returns-in-Ok-clause-answer c =
    let P : Answer → Type 0 = λ answer. IsPut answer c.answer_text.new.self.reply.text.items c.answer_text.result in
    subst P (plain_text (table_in c.args.self.now.source.now) c.args.line.now c.in-Ok.text.now c.in-Ok.ensures.cases.0 c.in-Ok.ensures.cases.1)
    c.answer_text.ensures.answer

pub returns-in-Err-clause-answer : goal.returns-in-Err-clause-answer
returns-in-Err-clause-answer c =
    let table = table_in c.args.self.now.source.now in
    refused_told (plain_answer table c.args.line.now) (codes "a request is text in UTF-8") c.refused.result
    (no_plain_text table c.args.line.now c.in-Err.ensures.cases.0) c.refused.ensures
