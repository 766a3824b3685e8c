use Rattle.std.proofs.Common.{◌∙◌, pos, ◌+ℤ◌, ◌*ℤ◌}
use Rattle.civil_base.specs.{Clock.{nanos_per_day}, DateTimes.{instant, local_of}, Instants.{instant_at}, PartLaws.{parts-joined}}
use Rattle.sefunjaro_c.proofs.zones.moved_to.Goals as goal

pub returns : goal.returns
unfolding instant
returns c =
    let joined = c.new.ensures ∙ (λ i. c.date.ensures i *ℤ pos nanos_per_day +ℤ pos (c.time.ensures i)) ∙ parts-joined (local_of c.args.shown.now) in
    (λ i. instant_at ((c.assume_offset.ensures.local ∙ joined) i) (c.assume_offset.ensures.offset i))
