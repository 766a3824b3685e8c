use Rattle.std.proofs.{Common.{◌≡◌, ◌-◌, ◌++◌, take, ap, sym, ◌∙◌, arith}, lemmas.List.{take-take}, lemmas.Result.{on_ok_weaker}}
use Rattle.civil_base.specs.Layout.{local_text}
use Rattle.zone_alarm.{specs.RingLines.{date_text}, proofs.LineLemmas.{day_of_midnight, has_time, without_time}}
use Rattle.zone_alarm.proofs.line.add_date.Goals as goal

pub slice_bounds-local-count : goal.slice_bounds-local-count
slice_bounds-local-count c = omega (arith, has_time c.new.result, c.write_local-end.ensures.length)

pub returns : goal.returns
returns c =
    let end = c.write_local-end.result in
    let local = c.write_local-end.new.into in
    let text = local_text c.new.result in
    let front : take (end - 19) local ≡ date_text c.args.date =
    sym (take-take (end - 19) end local (omega arith)) ∙ ap (take (end - 19)) c.write_local-end.ensures.text
    ∙ ap (λ n. take (n - 19) text) c.write_local-end.ensures.length ∙ without_time c.new.result
    ∙ ap date_text (day_of_midnight c.args.date c.new.result c.new.ensures) in
    on_ok_weaker c.add_bytes.result (λ added. added ∙ ap (λ t. c.args.text.now.items ++ t) front) c.add_bytes.ensures
