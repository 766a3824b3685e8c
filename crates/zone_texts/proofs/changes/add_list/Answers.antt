use Rattle.std.proofs.{Common.{◌++◌, rules, ap, sym, ◌∙◌}, lemmas.Result.{err_from_is_err_and}}
use Rattle.zone_texts.{specs.{Faults.{behind}, DueLaws.{moved, whole}}, proofs.ListLemmas.{list_is, second_is}}
use Rattle.zone_texts.proofs.changes.add_list.Goals as goal

pub returns-in_err-add_lines-clause-cause : goal.returns-in_err-add_lines-clause-cause
returns-in_err-add_lines-clause-cause g c =
    let view = g.Z.ReplyZone.view c.args.zone.now in
    let from = second_is c.assume_utc.result _ c.second_from-first.result c.assume_utc.ensures.local c.assume_utc.ensures.offset (search rules) c.second_from-first.ensures in
    let to = second_is c.assume_utc-2.result _ c.second_from.result c.assume_utc-2.ensures.local c.assume_utc-2.ensures.offset (search rules) c.second_from.ensures in
    let is = list_is c.args.style.now.form view c.args.style.now.name.now c.args.from.now c.args.to.now c.deref.result.now
    (sym c.is_untold.ensures ∙ c.if-is_untold.false) (c.deref.ensures.value ∙ c.in_ok-changes.ensures ∙ (λ i. view.changes (from i) (to i))) in
    let p = err_from_is_err_and c.from_residual-in_err-add_lines.result c.from_residual-in_err-add_lines.ensures.1 in
    rw (p.1, p.2) (moved _ _ is _ c.in_err-add_lines.ensures.err)

pub returns-clause-ok : goal.returns-clause-ok
returns-clause-ok g c =
    let view = g.Z.ReplyZone.view c.args.zone.now in
    let from = second_is c.assume_utc.result _ c.second_from-first.result c.assume_utc.ensures.local c.assume_utc.ensures.offset (search rules) c.second_from-first.ensures in
    let to = second_is c.assume_utc-2.result _ c.second_from.result c.assume_utc-2.ensures.local c.assume_utc-2.ensures.offset (search rules) c.second_from.ensures in
    let is = list_is c.args.style.now.form view c.args.style.now.name.now c.args.from.now c.args.to.now c.deref.result.now
    (sym c.is_untold.ensures ∙ c.if-is_untold.false) (c.deref.ensures.value ∙ c.in_ok-changes.ensures ∙ (λ i. view.changes (from i) (to i))) in
    whole c.args.into.now.items c.new-text.result.items c.add_lines.new.into.items c.extend_from_slice.new.self.items _ c.new-text.ensures.items
    c.in_ok-add_lines.ensures.ok (c.in_ok-extend_from_slice.ensures.items ∙ ap (λ t. c.args.into.now.items ++ t) c.deref-2.ensures.value)
    ∙ ap (behind c.args.into.now.items) is
