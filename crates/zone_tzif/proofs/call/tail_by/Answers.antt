use Rattle.std.proofs.Common.{◌∙◌, subst}
use Rattle.zone_tzif.specs.Tails.{CarriesNothing, TextTells}
use Rattle.zone_tzif.proofs.call.tail_by.Goals as goal

pub returns-in-Nowhere : goal.returns-in-Nowhere
returns-in-Nowhere g c =
    let set = g.S.SpanTable.seen c.args.set.now in
    let nothing = subst (TextTells set c.as_str.result.now) c.in-Nowhere.is c.text_agreement.ensures in
    subst (CarriesNothing set) (c.as_str.ensures.value ∙ c.in_ok-text.ensures) nothing
