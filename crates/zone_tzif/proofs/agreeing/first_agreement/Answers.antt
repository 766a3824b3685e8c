use Rattle.tz_tzif.specs.FooterShown.{footer_shown}
use Rattle.zone_tzif.proofs.AnswerLemmas.{told}
use Rattle.zone_tzif.proofs.agreeing.first_agreement.Goals as goal

pub returns-then-is_always : goal.returns-then-is_always
returns-then-is_always g c = c.is_always.ensures.0 c.if-is_always.true

pub returns : goal.returns
returns g c =
    told (footer_shown c.args.footer.now) (g.S.SpanTable.seen c.args.set.now) c.from_entry.result c.from_entry.ensures
    (λ all. let yes = c.is_always.ensures.1 all in let no = c.if-is_always.false in cc)
