use Rattle.std.proofs.{Common.{◌++◌, ap, refl, ◌∙◌}, lemmas.Result.{on_ok_weaker}}
use Rattle.civil_base.specs.{DateTimes.{instant, offset_of}, Instants.{seconds_of}}
use Rattle.zone_words.specs.{Written.{people_text, rfc3339_text}, declared.answer_form.AnswerForm.TheVariants.{People, Rfc3339, Json}}
use Rattle.zone_texts.{specs.Objects.{object_text}, proofs.InstantLemmas.{text_as}}
use Rattle.zone_texts.proofs.line.add_instant.Goals as goal

pub returns-in-People : goal.returns-in-People
returns-in-People g c =
    let view = g.Z.ReplyZone.view c.args.zone.now in
    on_ok_weaker c.add_named.result
    (λ added. added ∙ text_as c.args.into.now.items _ People view c.args.style.now.name.now c.args.kind c.args.date.now _
    (λ x. people_text x (offset_of c.args.date.now) (view.force (seconds_of (instant c.args.date.now))).name) c.local_of-local.ensures c.in-People.is refl)
    c.add_named.ensures

pub returns-in_ok-add_rfc3339-in-Rfc3339 : goal.returns-in_ok-add_rfc3339-in-Rfc3339
returns-in_ok-add_rfc3339-in-Rfc3339 g c =
    c.in_ok-add_rfc3339-in-Rfc3339.ensures.items ∙ ap (λ o. c.args.into.now.items ++ rfc3339_text c.local_of-local.result o) c.offset.ensures
    ∙ text_as c.args.into.now.items _ Rfc3339 (g.Z.ReplyZone.view c.args.zone.now) c.args.style.now.name.now c.args.kind c.args.date.now _
    (λ x. rfc3339_text x (offset_of c.args.date.now)) c.local_of-local.ensures c.in-Rfc3339.is refl

pub returns-in-Json : goal.returns-in-Json
returns-in-Json g c =
    let view = g.Z.ReplyZone.view c.args.zone.now in
    let name = c.args.style.now.name.now in
    let d = c.args.date.now in
    on_ok_weaker c.add_whole.result
    (λ added. added ∙ text_as c.args.into.now.items _ Json view name c.args.kind d _
    (λ x. object_text name (instant d) x (offset_of d) (view.force (seconds_of (instant d))) c.args.kind) c.local_of-local.ensures c.in-Json.is refl)
    c.add_whole.ensures
