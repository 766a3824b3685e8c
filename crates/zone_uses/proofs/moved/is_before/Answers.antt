use Rattle.std.proofs.Common.{ap, ◌∙◌, int_lt, pos, ◌+ℤ◌, ◌*ℤ◌}
use Rattle.civil_base.specs.{DateTimes.{local_of, instant-at_offset, instant}, Instants.{instant_at}, Layout.{day_part}, PartLaws.{parts-joined}}
use Rattle.zone_uses.proofs.moved.is_before.Goals as goal

pub returns : goal.returns
returns c =
    c.lies_before.ensures
    ∙ ap (λ t. int_lt t (instant c.args.change.now))
    (ap instant c.assume_offset-shown.ensures.value
    ∙ instant-at_offset c.new.result c.args.offset
    ∙ ap (λ x. instant_at x c.args.offset)
    (c.new.ensures ∙ ap (λ d. d *ℤ pos 86400000000000 +ℤ pos c.time.result) c.date.ensures
    ∙ ap (λ t. day_part (local_of c.args.local.now) *ℤ pos 86400000000000 +ℤ pos t) c.time.ensures
    ∙ parts-joined (local_of c.args.local.now)))
