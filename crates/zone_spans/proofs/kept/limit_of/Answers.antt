use Rattle.std.proofs.{Common.{Option, Some, sym, ap, ◌∙◌, subst, pos, rules, to_z, of_z, w64, SFits}, lemmas.Int.{to_z-of_z}}
use Rattle.zone_table.specs.declared.change.ChangeTime.{ChangeTime}
use Rattle.zone_spans.{specs.Kept.{IsLimit}, specs.Windows.{line_end}, proofs.KeptLemmas.{is_limit}}
use Rattle.zone_spans.proofs.kept.limit_of.Goals as goal

pub returns-in-Some : goal.returns-in-Some
returns-in-Some c =
    let limit = c.line_end.result in
    let fits : SFits w64 limit = search rules in
    let end_is = c.line_end.ensures.value ∙ ap (λ o. line_end c.in-Some.end o (pos 1000000)) (to_z-of_z w64 c.args.offset c.ranges.offset) in
    subst (λ (e : Option ChangeTime). IsLimit e c.args.offset (to_z w64 (of_z w64 limit))) (sym c.in-Some.is)
    (subst (IsLimit (Some c.in-Some.end) c.args.offset) (sym (to_z-of_z w64 limit fits)) (is_limit c.in-Some.end c.args.offset limit end_is))
