use Rattle.std.proofs.Common.{to_z-of_z, FitsSigned, w64, rules, ◌∙◌, sym, subst}
use Rattle.tz_tzif.specs.FooterShown.{footer_shown}
use Rattle.zone_tzif.{specs.Agreement.{AgreesFirstFrom}, proofs.AnswerLemmas.{first_from, nowhere, late}}
use Rattle.zone_tzif.proofs.agreeing.from_entry.Goals as goal

pub returns-then-is_early : goal.returns-then-is_early
returns-then-is_early g c =
    let set = g.S.SpanTable.seen c.args.set.now in
    let zone = footer_shown c.args.footer.now in
    let fits : FitsSigned w64 c.time.result = search rules in
    let early = c.is_early.ensures.0 c.if-is_early.true in
    subst (AgreesFirstFrom zone set) (sym (to_z-of_z fits ∙ c.time.ensures))
    (first_from c.footers_repeat.ensures zone c.read_offset.ensures set c.requires.accepted.times c.args.entry c.requires.walked early.0 early.1)

pub returns-else-is_early : goal.returns-else-is_early
returns-else-is_early g c =
    let set = g.S.SpanTable.seen c.args.set.now in
    let zone = footer_shown c.args.footer.now in
    nowhere c.footers_repeat.ensures zone c.read_offset.ensures set c.requires.accepted.times c.args.entry c.requires.walked
    (late set c.args.entry (λ inside early. let yes = c.is_early.ensures.1 (inside, early) in let no = c.if-is_early.false in cc))
