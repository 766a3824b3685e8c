use Rattle.std.proofs.Common.{[], ◌∷◌, ◌++◌, map, ap, ◌∙◌}
use Rattle.civil_base.specs.DateTimes.{instant, instant-at_offset}
use Rattle.zone_texts.proofs.fixed.FixedZoneReplyZone.instants.Goals as goal

pub returns : goal.returns
returns c =
    ap (map instant) (c.in_ok-extend_from_slice.ensures.items ∙ ap (λ l. l ++ (c.assume_offset-date.result ∷ [])) c.new-found.ensures.items)
    ∙ ap (λ t. t ∷ [])
    (ap instant c.assume_offset-date.ensures.value ∙ instant-at_offset c.args.local.now c.args.self.now.offset)
