use Rattle.std.proofs.Common.{◌∙◌, FitsSigned, to_z-of_z, w64, rules}
use Rattle.zone_list.{specs.Windows.{entry_at}, proofs.StepLemmas.{total_is, dates_are, shown_as}}
use Rattle.zone_list.proofs.row.date_time_at.Goals as goal

pub returns-in-Ok-clause-dates : goal.returns-in-Ok-clause-dates
returns-in-Ok-clause-dates g c =
    let set = g.S.SpanTable.seen c.args.set.now in
    let fits : FitsSigned w64 c.time.result = search rules in
    dates_are (entry_at set c.args.place) _ _ _ _ (to_z-of_z fits ∙ c.time.ensures) (c.offset_of.ensures ∙ total_is set c.args.place c.requires.within)
    c.in-Ok.ensures.accepts c.in-Ok.ensures.instant c.to_offset.ensures.has

pub returns-in-Ok-clause-shown : goal.returns-in-Ok-clause-shown
returns-in-Ok-clause-shown g c =
    let set = g.S.SpanTable.seen c.args.set.now in
    let fits : FitsSigned w64 c.time.result = search rules in
    shown_as (entry_at set c.args.place) c.to_offset.result _ _ _ (to_z-of_z fits ∙ c.time.ensures)
    (c.offset_of.ensures ∙ total_is set c.args.place c.requires.within) c.in-Ok.ensures.instant c.to_offset.ensures.instant c.to_offset.ensures.offset
