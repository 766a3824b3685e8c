use Rattle.std.proofs.Common.{[], map}
use Rattle.civil_base.specs.DateTimes.{instant}
use Rattle.zone_command.{specs.Replies.{at_lines, instants_at}, proofs.AnswerLemmas.{answered}}
use Rattle.zone_command.proofs.answering.at_reply.Goals as goal
use Rattle.zone_words.specs.TimesShown.{asked}

pub returns : goal.returns
returns g c =
    let name = c.args.style.now.name.now in
    answered (g.S.ZoneSource.found c.args.source.now) name name
    (λ view. at_lines c.args.style.now.form view name [] (instants_at (instant c.args.now.now) (map asked c.args.times.now)))
    c.at_lines-lines.result c.told.result c.in_ok-zone.ensures.ok c.at_lines-lines.ensures c.told.ensures
