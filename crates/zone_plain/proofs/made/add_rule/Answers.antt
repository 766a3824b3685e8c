use Rattle.std.{proofs.Common.{◌∙◌, sym, ap, to_z-of_z, Some, None, rules, FitsSigned, w64}, proofs.lemmas.Result.{IfOk-weaker}, specs.Prelude.{if◌then◌else◌}}
use Rattle.zone_table.specs.Values.{rule_value}
use Rattle.zone_plain.{specs.OffsetTexts.{offset_text, has_text}, specs.Made.{total_of}, proofs.RuleLemmas.{no_total, total_has_text, rule_unsaid, rule_added}}
use Rattle.zone_plain.proofs.made.add_rule.Goals as goal

pub returns-in-None : goal.returns-in-None
returns-in-None c =
    let offset = to_z-of_z c.ranges.offset in
    rule_unsaid _ _ c.args.offset (rule_value c.args.old.now)
    (ap (λ o. has_text (total_of o (rule_value c.args.old.now))) (sym offset) ∙ no_total (total_of _ (rule_value c.args.old.now)) c.in-None.ensures)

pub offset_text-requires : goal.offset_text-requires
offset_text-requires c =
    let fits : FitsSigned w64 c.in-Some.total = search rules in
    ap has_text (to_z-of_z fits) ∙ total_has_text (total_of _ (rule_value c.args.old.now)) _ c.in-Some.ensures

pub returns : goal.returns
returns c =
    let offset = to_z-of_z c.ranges.offset in
    let fits : FitsSigned w64 c.in-Some.total = search rules in
    IfOk-weaker c.add_said.result _ _ (λ said. rule_added _ _ _ c.args.offset (rule_value c.args.old.now) c.in-Some.total _ _ said
    (c.in-Some.ensures ∙ ap (λ o. if has_text (total_of o (rule_value c.args.old.now)) then Some (total_of o (rule_value c.args.old.now)) else None) offset)
    (c.as_str.ensures.value ∙ c.in_ok-letters.ensures ∙ ap offset_text (to_z-of_z fits)) c.renamed.ensures) c.add_said.ensures
