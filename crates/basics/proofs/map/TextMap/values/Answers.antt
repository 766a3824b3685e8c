use Rattle.std.{proofs.Common.{◌≡◌, true, sym, ◌∙◌, subst, map as each}, specs.List.{list_all}, specs.List.Sorted.{IsPermutation}, proofs.lemmas.List.Sorted.{IsPermutation-map}}
use Rattle.std.specs.FinMap as map
use Rattle.basics.{specs.Keyed.{by_bytes, EachPasses}, proofs.KeyedMaps.{each_passes, all_pass}, proofs.Permuted.{entries-keyed, values-by_bytes, list_all-permuted}}
use Rattle.basics.proofs.map.TextMap.values.Goals as goal

pub returns : goal.returns
returns g c =
    let es = c.self.inside.hashed.entries in
    let order = IsPermutation-map (λ e. e.1) _ _ (entries-keyed es c.values.ensures.unique) in
    let given : each (λ e. e.1) (by_bytes es) ≡ c.values.result = values-by_bytes es ∙ sym c.values.ensures.rest in
    let each_once =
    subst (λ vs. IsPermutation (map.values c.args.self.now) vs) given
    (subst (λ m. IsPermutation (map.values m) (each (λ e. e.1) (by_bytes es))) c.self.view_is order) in
    record {
      each_once = each_once;
      all = λ test. sym (list_all-permuted test _ _ each_once);
      passing = λ test. (
        λ all. subst (EachPasses test) c.self.view_is
            (each_passes test es (subst (λ vs. list_all test vs ≡ true) c.values.ensures.rest all)),
        λ each. subst (λ vs. list_all test vs ≡ true) (sym c.values.ensures.rest)
            (all_pass test es c.values.ensures.unique (subst (EachPasses test) (sym c.self.view_is) each)),
      );
      runs = c.values.ensures.runs;
    }
