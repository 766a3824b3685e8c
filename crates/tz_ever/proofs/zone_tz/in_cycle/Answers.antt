use Rattle.std.proofs.Common.{pos, ◌+ℤ◌, ◌*ℤ◌, ap, ◌∙◌}
use Rattle.civil_base.specs.{Clock.{nanos_per_day}, Layout.{day_part, time_part}, PartLaws.{parts-joined, time_part-inside}}
use Rattle.tz_ever.{specs.Recurrences.{turned}, specs.declared.recurrence.Recurrence.TheVariants.{Always}, proofs.TurnLemmas.{time_turned}}
use Rattle.tz_ever.proofs.zone_tz.in_cycle.Goals as goal

pub returns : goal.returns
returns c =
    let x = c.args.local in
    c.new.ensures ∙ ap (λ z. z +ℤ pos c.time.result) c.date_in_cycle.ensures
    ∙ ap (λ d. turned Always (d *ℤ pos nanos_per_day) +ℤ pos c.time.result) c.date.ensures.value
    ∙ ap (λ t. turned Always (day_part x *ℤ pos nanos_per_day) +ℤ pos t) c.time.ensures
    ∙ time_turned (day_part x) (time_part x) (time_part-inside x) ∙ ap (turned Always) (parts-joined x)
