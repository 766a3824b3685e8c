use Rattle.std.proofs.Common.{◌≡◌}
use Rattle.tz_tzif.specs.FooterShown.{footer_shown}
use Rattle.zone_tzif.proofs.SavedLemmas.{somewhere}
use Rattle.zone_tzif.proofs.saved.is_told.Goals as goal

pub returns-in-From-clause-yes : goal.returns-in-From-clause-yes
returns-in-From-clause-yes g c = λ yes.
    somewhere (footer_shown c.args.footer.now) (g.S.SpanTable.seen c.args.set.now) c.first_agreement.result
    (λ e. let is = c.in-From.is in cc) c.first_agreement.ensures
