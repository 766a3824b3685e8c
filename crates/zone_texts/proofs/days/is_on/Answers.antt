use Rattle.std.proofs.Common.{◌+◌, ◌%◌, false, slice_index_or, ap, ◌∙◌}
use Rattle.zone_texts.specs.Days.{is_on}
use Rattle.zone_texts.proofs.days.is_on.Goals as goal

pub returns : goal.returns
unfolding is_on
returns c =
    ap (λ n. slice_index_or c.args.days.now n false)
    (c.from.ensures ∙ c.number_days_from_monday.ensures.value ∙ ap (λ n. (n + 6) % 7) c.weekday.ensures)
