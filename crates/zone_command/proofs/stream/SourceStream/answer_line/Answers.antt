use Rattle.std.{proofs.Common.{ap, subst}, specs.Prelude.{codes}}
use Rattle.zone_command.{specs.{Answers.{IsAnswer}, Requests.{Request}, Streams.{answer_for, answer_to}}, proofs.RequestLemmas.{no_text, of_text, refused_is}}
use Rattle.zone_command.proofs.stream.SourceStream.answer_line.Goals as goal

pub returns-in-Ok-clause-answer : goal.returns-in-Ok-clause-answer
returns-in-Ok-clause-answer g c =
    let P : Request → Type 0 = λ request. IsAnswer (answer_for (g.S.ZoneSource.found c.args.self.now.kept.source.now) c.args.self.now.form request) c.answer_text.result in
    subst P (of_text c.args.line.now c.in-Ok.text.now c.in-Ok.ensures.cases.0 c.in-Ok.ensures.cases.1) c.answer_text.ensures.answer

pub returns-in-Err-clause-answer : goal.returns-in-Err-clause-answer
returns-in-Err-clause-answer g c =
    let found = g.S.ZoneSource.found c.args.self.now.kept.source.now in
    let form = c.args.self.now.form in
    refused_is (answer_to found form c.args.line.now) (codes "a request is text in UTF-8") c.refused.result
    (ap (answer_for found form) (no_text c.args.line.now c.in-Err.ensures.cases.0)) c.refused.ensures
