use Rattle.tz_tzif.specs.FooterShown.{footer_shown}
use Rattle.zone_tzif.proofs.TextLemmas.{no_footer, text_tells}
use Rattle.zone_tzif.proofs.call.text_agreement.Goals as goal

pub returns-in-Some : goal.returns-in-Some
returns-in-Some g c =
    text_tells c.one_footer.ensures (g.S.SpanTable.seen c.args.set.now) c.args.text.now (footer_shown c.in-Some.footer) c.in-Some.ensures
    c.first_agreement.result c.first_agreement.ensures

pub returns-in-None : goal.returns-in-None
returns-in-None g c = no_footer (g.S.SpanTable.seen c.args.set.now) c.args.text.now c.in-None.ensures
