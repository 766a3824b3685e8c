use Rattle.std.proofs.{Common.{rules, ℤ}, lemmas.Result.{IfOk-equal}, lemmas.List.Sorted.{answers_always}}
use Rattle.basics.specs.Sorted.{stable_sort}
use Rattle.zone_spans.{specs.Placed.{Placed}, proofs.PlacedLemmas.{below_is}}
use Rattle.zone_spans.proofs.front.sort.Goals as goal

pub returns : goal.returns
returns c =
    let local : Placed → ℤ = λ p. p.local in
    IfOk-equal c.sort_by_key.result _ _ _ (c.sort_by_key.ensures.ok local (answers_always _ _ _ (λ f a r g h. search rules)))
    (λ i. stable_sort (λ a b. below_is a b i) c.args.items.now)
