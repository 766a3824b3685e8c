use Rattle.std.proofs.Common.{sym, ◌∙◌}
use Rattle.civil_base.specs.DateTimes.{instant}
use Rattle.zone_command.{specs.Replies.{list_lines}, proofs.AnswerLemmas.{answered, in_window}}
use Rattle.zone_command.proofs.answering.list_reply.Goals as goal

pub returns-in_ok-zone : goal.returns-in_ok-zone
returns-in_ok-zone g c =
    let name = c.args.style.now.name.now in
    let found = g.S.ZoneSource.found c.args.source.now in
    in_window found c.args.style.now.form name (instant c.args.from.now) (instant c.args.to.now) c.args.word.now c.told.result
    (sym c.lt.ensures ∙ c.if-lt.true)
    (answered found name name (λ view. list_lines c.args.style.now.form view name (instant c.args.from.now) (instant c.args.to.now))
    c.list_lines-lines.result c.told.result c.in_ok-zone.ensures.ok c.list_lines-lines.ensures c.told.ensures)
