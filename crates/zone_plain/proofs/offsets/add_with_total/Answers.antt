use Rattle.std.proofs.{Common.{◌∙◌, sym, ap, to_z-of_z}, lemmas.Result.{IfOk-weaker}}
use Rattle.zone_plain.{specs.OffsetTexts.{offset_text, has_text}, specs.Made.{around_text}, specs.Shown.{parts_shown}, proofs.RuleLemmas.{total_unsaid, total_added}}
use Rattle.zone_plain.proofs.offsets.add_with_total.Goals as goal

pub returns-then-not-has_text : goal.returns-then-not-has_text
returns-then-not-has_text c =
    let total = to_z-of_z c.ranges.total in
    total_unsaid _ _ c.args.total (ap has_text (sym total) ∙ sym c.has_text.ensures ∙ c.if-not-has_text.true)

pub returns : goal.returns
returns c =
    let total = to_z-of_z c.ranges.total in
    IfOk-weaker c.add_with_format.result _ _ (λ said. total_added _ _ _ (parts_shown c.args.parts.now) _ c.args.total said
    (ap has_text (sym total) ∙ sym c.has_text.ensures ∙ c.if-not-has_text.false) (c.as_str-2.ensures.value ∙ c.in_ok-format.ensures
    ∙ ap (around_text (parts_shown c.args.parts.now)) (c.as_str.ensures.value ∙ c.in_ok-text.ensures ∙ ap offset_text total)))
    c.add_with_format.ensures
