use Rattle.std.proofs.{Common.{◌≡◌, ◌∙◌, sym}, lemmas.Bool.{eq-eqb, eqb-true}}
use Rattle.tz_tzif.specs.FooterShown.{footer_shown}
use Rattle.zone_tzif.proofs.AnswerLemmas.{always, first_at, none_left}
use Rattle.zone_tzif.proofs.agreeing.is_always.Goals as goal

pub returns-then-entry-eq0 : goal.returns-then-entry-eq0
returns-then-entry-eq0 g c =
    let set = g.S.SpanTable.seen c.args.set.now in
    let zone = footer_shown c.args.footer.now in
    let is = c.kind_at-kind.ensures in
    let repeats = c.footers_repeat.ensures in
    let range = c.read_offset.ensures in
    let times = c.requires.accepted.times in (
      (λ yes. let stands = c.is_standing-is_standing.ensures.0 yes in
          always repeats zone range set times c.args.entry c.requires.walked c.if-entry-eq0.true stands.0 (stands.1 ∙ is)),
      (λ all. c.is_standing-is_standing.ensures.1 (all.fixed, first_at repeats zone range set times c.args.entry c.requires.walked all ∙ sym is)),
    )

pub returns-else-entry-eq0 : goal.returns-else-entry-eq0
returns-else-entry-eq0 g c =
    let set = g.S.SpanTable.seen c.args.set.now in
    let zone = footer_shown c.args.footer.now in (
      (λ yes. absurd (c.if-entry-eq0.false (eqb-true c.args.entry 0 yes))),
      (λ all. let none : c.args.entry ≡ 0 = none_left c.footers_repeat.ensures zone c.read_offset.ensures set c.requires.accepted.times c.args.entry c.requires.walked all in
          eq-eqb c.args.entry 0 none),
    )
