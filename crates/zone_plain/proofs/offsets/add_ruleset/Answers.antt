use Rattle.std.proofs.{Common.{◌∙◌, ap, refl, to_z, of_z, to_z-of_z, w64}, lemmas.Result.{IfOk-weaker}}
use Rattle.zone_plain.{specs.Shown.{pair_shown}, proofs.MadeLemmas.{places_are, ruleset_named}}
use Rattle.zone_plain.proofs.offsets.add_ruleset.Goals as goal

pub returns : goal.returns
returns c =
    let offset = ap (λ z. to_z w64 (of_z w64 z)) c.offset_of.ensures.value ∙ to_z-of_z c.offset_of.ensures.fits in
    IfOk-weaker c.add_rules.result _ _ (λ said. ruleset_named _ _ _ _ _ (pair_shown c.args.pair.now) _ _ said refl offset
    (places_are _ _ _ _ c.requires c.places_of-places.ensures)) c.add_rules.ensures
