use Rattle.std.{proofs.Common.{Some, subst, sym}, proofs.lemmas.Result.{IfOk-weaker}}
use Rattle.sefunjaro.specs.Sources.{table_in}
use Rattle.zone_answers.specs.Found.{found_in_table, to_2099}
use Rattle.zone_command.specs.Days.{IsDayOf}
use Rattle.zone_command.proofs.plain.PlainStream.answer_again.Goals as goal

pub returns-in-Some-clause-answer : goal.returns-in-Some-clause-answer
returns-in-Some-clause-answer c =
    let stream = c.args.self.now in
    let names = found_in_table to_2099 (table_in stream.source.now) in
    let same = subst (λ line. IsDayOf names line (Some c.in-Some.day)) (sym c.deref.ensures.value)
    (subst (IsDayOf names stream.before.items) c.in-Some.is stream.of_day) in
    IfOk-weaker c.add.result _ _ (λ _ law has. law has _ _ same) c.add.ensures.line
