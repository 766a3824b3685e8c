use Rattle.std.proofs.Common.{◌∙◌, sym}
use Rattle.sefunjaro.proofs.ShownLemmas.{all_shown, few_shown}
use Rattle.sefunjaro.specs.Zones.{kept_total}
use Rattle.sefunjaro.proofs.shown.texts_at.Goals as goal

pub fill_texts-requires-clause-shown : goal.fill_texts-requires-clause-shown
fill_texts-requires-clause-shown c =
    let total = kept_total c.args.zone.now in
    all_shown total c.args.seconds.now (few_shown total c.args.seconds.now (sym c.textless_place.ensures ∙ c.in-None.is)).1

pub fill_texts-requires-clause-few : goal.fill_texts-requires-clause-few
fill_texts-requires-clause-few c =
    (few_shown (kept_total c.args.zone.now) c.args.seconds.now (sym c.textless_place.ensures ∙ c.in-None.is)).0
