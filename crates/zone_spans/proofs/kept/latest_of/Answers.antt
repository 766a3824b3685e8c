use Rattle.std.{proofs.Common.{◌+◌, ◌≤ℤ◌, take, int_le, IsTrue, sym, ap, ◌∙◌, subst, arith, rules, to_z, of_z, w64, SFits}, specs.List.{list_all}, proofs.lemmas.Int.{to_z-of_z}}
use Rattle.basics.specs.ComparisonLaws.{le_le}
use Rattle.zone_spans.{specs.Firings.{Firing}, proofs.KeptLemmas.{at_most, latest_more}}
use Rattle.zone_spans.proofs.kept.latest_of.Goals as goal

pub loop-firing-preserved : goal.loop-firing-preserved
loop-firing-preserved c =
    let later = c.max-latest.result in
    let fits : SFits w64 later = search rules in
    let is = to_z-of_z w64 later fits in
    let step = c.max-latest.ensures in
    let time : SFits w64 c.firing.inside.time = search rules in
    let time_is = to_z-of_z w64 c.firing.inside.time time ∙ ap (λ (f : Firing). f.time) c.firing.view_is in
    let here = at_most (subst (λ t. t ≤ℤ later) time_is step.other_bound) in
    record {
      firings = subst (λ l. IsTrue (list_all (λ f. int_le f.time l) (take (c.loop-firing.firing-index + 1) c.args.fired.now))) (sym is)
          (latest_more c.args.fired.now c.loop-firing.firing-index c.firing-item.result (to_z w64 c.loop-firing.latest-bits) later (omega arith) c.firing-item.is
          c.loop-firing.invariant.firings here step.self_bound);
      second = subst (λ l. to_z w64 (of_z w64 c.args.second) ≤ℤ l) (sym is) (le_le _ _ _ c.loop-firing.invariant.second step.self_bound);
    }
