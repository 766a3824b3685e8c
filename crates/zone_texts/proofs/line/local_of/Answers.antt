use Rattle.std.proofs.Common.{pos, ◌+ℤ◌, ◌*ℤ◌, ap, ◌∙◌}
use Rattle.civil_base.specs.{Clock.{nanos_per_day}, DateTimes.{local_of}, Layout.{day_part}, PartLaws.{parts-joined}}
use Rattle.zone_texts.proofs.line.local_of.Goals as goal

pub returns : goal.returns
returns c =
    c.new.ensures ∙ ap (λ d. d *ℤ pos nanos_per_day +ℤ pos c.time.result) c.date.ensures
    ∙ ap (λ t. day_part (local_of c.args.date.now) *ℤ pos nanos_per_day +ℤ pos t) c.time.ensures
    ∙ parts-joined (local_of c.args.date.now)
