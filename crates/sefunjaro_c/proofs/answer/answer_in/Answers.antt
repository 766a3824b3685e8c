use Rattle.std.proofs.Common.{◌≡◌}
use Rattle.civil_base.specs.DateTimes.{instant}
use Rattle.sefunjaro.specs.{Answers.{IsAnswer}, Zones.{given_in, total_in}}
use Rattle.sefunjaro_c.proofs.ShownLemmas.{where_answered, where_unanswered}
use Rattle.sefunjaro_c.proofs.answer.answer_in.Goals as goal

pub returns-in-Some-clause-answer : goal.returns-in-Some-clause-answer
returns-in-Some-clause-answer c =
    let zone = c.args.zone.now in let t = instant c.args.at.now in let old = c.args.name.now in let new = c.answer_at.new.room in
    where_answered (total_in zone) (given_in zone) t c.in-Some.told old new (new ≡ old) c.in-Some.ensures.answer

pub returns-in-None-clause-answer : goal.returns-in-None-clause-answer
returns-in-None-clause-answer c =
    let zone = c.args.zone.now in let t = instant c.args.at.now in let old = c.args.name.now in let new = c.answer_at.new.room in
    where_unanswered (total_in zone) t (new ≡ old) (IsAnswer (total_in zone) (given_in zone) t c.args.answer.now old new)
    c.in-None.ensures.answer.0 c.in-None.ensures.answer.1
