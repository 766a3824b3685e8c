use Rattle.std.{proofs.Common.{ap, ◌∙◌, rules}, specs.Prelude.{take}}
use Rattle.tz_lookup.{specs.{InForce.{totals_at}, AnswerLaws.{instants_of_two}}, proofs.TimeZoneLemmas.{shown_assumed, shown_mapped}}
use Rattle.tz_lookup.proofs.time_zone.PlainDateTimePrimitiveDateTimeExt.assume_timezone.Goals as goal

pub returns-clause-shown : goal.returns-clause-shown
returns-clause-shown g c =
    let total = g.T.TimeZone.total_at c.args.tz.now in
    let x = c.args.self.now in
    shown_mapped g.T.Offset.Offset.total x _ _ _ c.map.ensures (λ o date h. search rules)
    ∙ shown_assumed total x _ (g.met.T.TimeZone.in_range c.args.tz.now)
    (c.get_offset_local.ensures.totals ∙ ap (λ y. take 2 (totals_at total y)) c.assume_utc.ensures.local)

pub returns-clause-exact : goal.returns-clause-exact
returns-clause-exact g c = λ orderly.
    let zone = c.args.tz.now in
    let x = c.args.self.now in
    instants_of_two (g.T.TimeZone.total_at zone) x _
    (g.met.T.TimeZone.in_range zone) (g.met.T.TimeZone.two_at_most zone x orderly) (returns-clause-shown g c)
