use Rattle.std.proofs.{Common.{◌∷◌, ◌++◌, ap, sym, ◌∙◌}, lemmas.Result.{on_ok_weaker}}
use Rattle.civil_base.specs.Layout.{offset_text, zoned_text}
use Rattle.tz_lookup.specs.InForce.{shown_of}
use Rattle.zone_answers.proofs.showing.add_spelled.Goals as goal

pub returns-clause-added : goal.returns-clause-added
unfolding shown_of zoned_text
returns-clause-added c =
    let offset = c.spaced_offset.ensures.text ∙ ap (λ o. 32 ∷ offset_text o) c.offset.ensures in
    on_ok_weaker c.add_both.result (λ added. added ∙ (λ i. c.args.text.now.items ++ (sym c.requires i ++ offset i))) c.add_both.ensures.added
