use Rattle.std.proofs.Common.{[], ◌∷◌, map, ap, ◌∙◌}
use Rattle.civil_base.specs.DateTimes.{instant, instant-at_offset}
use Rattle.zone_texts.proofs.instants.at_offset.Goals as goal

pub returns : goal.returns
returns c =
    ap (map instant) c.in_ok-found.ensures.items
    ∙ ap (λ t. t ∷ []) (ap instant c.assume_offset-date.ensures.value ∙ instant-at_offset c.args.local.now c.args.offset)
