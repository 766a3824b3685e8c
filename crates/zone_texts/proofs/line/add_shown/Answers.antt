use Rattle.std.proofs.Common.{ap, sym, ◌∙◌, Ok}
use Rattle.civil_base.specs.DateTimes.{instant}
use Rattle.zone_texts.{specs.{Faults.{behind}, Instants.{is_untold}}, proofs.InstantLemmas.{told_is, untold_is}}
use Rattle.zone_texts.proofs.line.add_shown.Goals as goal

pub returns-then-is_untold-clause-err : goal.returns-then-is_untold-clause-err
returns-then-is_untold-clause-err g c =
    let view = g.Z.ReplyZone.view c.args.zone.now in
    untold_is c.args.style.now.form view c.args.style.now.name.now c.args.kind (instant c.args.at.now) c.in-Some.date c.in-Some.ensures.instant
    c.in-Some.ensures.offset (sym c.in-Some.ensures.years) (ap (is_untold view) (sym c.local_of.ensures) ∙ sym c.is_untold.ensures ∙ c.if-is_untold.true)

pub returns-clause-ok : goal.returns-clause-ok
returns-clause-ok g c =
    let view = g.Z.ReplyZone.view c.args.zone.now in
    let told = told_is c.args.style.now.form view c.args.style.now.name.now c.args.kind (instant c.args.at.now) c.in-Some.date c.in-Some.ensures.instant
    c.in-Some.ensures.offset (sym c.in-Some.ensures.years) (ap (is_untold view) (sym c.local_of.ensures) ∙ sym c.is_untold.ensures ∙ c.if-is_untold.false) in
    ap Ok c.in_ok-add_instant.ensures ∙ sym (ap (behind c.args.into.now.items) told)
