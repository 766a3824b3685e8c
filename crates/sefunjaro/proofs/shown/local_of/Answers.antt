use Rattle.std.proofs.Common.{◌∙◌, pos, ◌+ℤ◌, ◌*ℤ◌}
use Rattle.civil_base.specs.{Clock.{nanos_per_day}, DateTimes.{local_of}, PartLaws.{parts-joined}}
use Rattle.sefunjaro.proofs.shown.local_of.Goals as goal

pub returns : goal.returns
returns c = c.new.ensures ∙ (λ i. c.date.ensures i *ℤ pos nanos_per_day +ℤ pos (c.time.ensures i)) ∙ parts-joined (local_of c.args.shown.now)
