use Rattle.std.{proofs.Common.{rules, ℤ, ◌∙◌, ap}, proofs.lemmas.Result.{IfOk-equal, IfOk-weaker}, proofs.lemmas.List.Sorted.{answers_always}, specs.List.{list_all}}
use Rattle.basics.specs.Sorted.{stable_sort}
use Rattle.zone_spans.{specs.Bounds.{is_bounded_entry}, specs.Entries.{Entry, is_sooner}, proofs.EntryLemmas.{sooner_is, sorted_passes}}
use Rattle.zone_spans.proofs.entries.sort.Goals as goal

pub returns-clause-sorted : goal.returns-clause-sorted
returns-clause-sorted c =
    let time : Entry → ℤ = λ e. e.0 in
    IfOk-equal c.sort_by_key.result _ _ _ (c.sort_by_key.ensures.ok time (answers_always _ _ _ (λ f a r g h. search rules)))
    (λ i. stable_sort (λ a b. sooner_is a b i) c.args.entries.now)

pub returns-clause-bounded : goal.returns-clause-bounded
returns-clause-bounded c =
    IfOk-weaker c.sort_by_key.result _ _
    (λ _ sorted. ap (list_all is_bounded_entry) sorted ∙ sorted_passes is_sooner is_bounded_entry c.args.entries.now ∙ c.requires)
    (returns-clause-sorted c)
