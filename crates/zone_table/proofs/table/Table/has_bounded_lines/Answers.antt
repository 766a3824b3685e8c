use Rattle.std.{proofs.Common.{rules, refl, sym, ◌∙◌}, specs.List.{list_all}, proofs.lemmas.Iterator.Consumers.{YieldsList-from_rest}, proofs.lemmas.Iterator.Search.{all_from_yields_List}}
use Rattle.zone_table.specs.Bounds.{is_bounded_info}
use Rattle.zone_table.proofs.table.Table.has_bounded_lines.Goals as goal

pub returns : goal.returns
returns c =
    let all =
    all_from_yields_List (list_all is_bounded_info) _ _ c.all.result c.all.ensures.ran (YieldsList-from_rest c.values.result refl)
    (λ x b q k. search rules) in
    let passing = c.values.ensures.passing (list_all is_bounded_info) in
    (λ is. passing.0 (sym all ∙ is), λ each. all ∙ passing.1 each)
