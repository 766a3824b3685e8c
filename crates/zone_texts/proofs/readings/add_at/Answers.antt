use Rattle.std.proofs.{Common.{◌++◌, ap, ◌∙◌}, lemmas.Result.{err_from_is_err_and}}
use Rattle.civil_base.specs.DateTimes.{instant}
use Rattle.zone_texts.{specs.{Faults.{behind}, DueLaws.{moved, whole}}, proofs.InstantLemmas.{kind_is}}
use Rattle.zone_texts.proofs.readings.add_at.Goals as goal

pub returns-in_err-add_shown-clause-cause : goal.returns-in_err-add_shown-clause-cause
returns-in_err-add_shown-clause-cause g c =
    let view = g.Z.ReplyZone.view c.args.zone.now in
    let is = kind_is c.args.style.now.form view c.args.style.now.name.now c.in_ok-kind.kind (instant c.args.at.now) c.in-Some.date _ c.in-Some.ensures.instant
    c.in-Some.ensures.offset c.local_of.ensures c.in_ok-kind.ensures in
    let p = err_from_is_err_and c.from_residual-in_err-add_shown.result c.from_residual-in_err-add_shown.ensures.1 in
    rw (p.1, p.2) (moved _ _ is _ c.in_err-add_shown.ensures.err)

pub returns-clause-ok : goal.returns-clause-ok
returns-clause-ok g c =
    let view = g.Z.ReplyZone.view c.args.zone.now in
    let is = kind_is c.args.style.now.form view c.args.style.now.name.now c.in_ok-kind.kind (instant c.args.at.now) c.in-Some.date _ c.in-Some.ensures.instant
    c.in-Some.ensures.offset c.local_of.ensures c.in_ok-kind.ensures in
    whole c.args.into.now.items c.new-text.result.items c.add_shown.new.into.items c.extend_from_slice.new.self.items _ c.new-text.ensures.items
    c.in_ok-add_shown.ensures.ok (c.in_ok-extend_from_slice.ensures.items ∙ ap (λ t. c.args.into.now.items ++ t) c.deref.ensures.value)
    ∙ ap (behind c.args.into.now.items) is
