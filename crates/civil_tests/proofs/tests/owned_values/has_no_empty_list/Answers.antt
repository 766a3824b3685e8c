use Rattle.std.proofs.{Common.{rules, tests, ◌==◌, not, length, refl, ◌∙◌}, lemmas.Iterator.Consumers.{YieldsList-from_rest}, lemmas.Iterator.Search.{all_from_yields_List}}
use Rattle.civil_tests.proofs.tests.owned_values.has_no_empty_list.Goals as goal

pub returns : goal.returns
returns c =
    all_from_yields_List (λ items. not (length items == 0)) _ _ c.all.result c.all.ensures.ran (YieldsList-from_rest c.values.result refl)
    (λ x b q k. search (rules, tests))
    ∙ c.values.ensures.all (λ items. not (length items == 0))
