use Rattle.std.proofs.Common.{List, All, sym, subst, arith}
use Rattle.zone_spans.{specs.Bounds.{IsSmallEntry}, specs.Entries.{Entry}, proofs.StepLemmas.{all_swapped}}
use Rattle.zone_spans.proofs.span.keep.Goals as goal

pub returns-clause-bounded : goal.returns-clause-bounded
returns-clause-bounded c =
    let moved = all_swapped IsSmallEntry c.args.rest.now c.args.place c.args.from (omega arith) (omega arith) c.requires.bounded in
    subst (λ (ys : List Entry). All IsSmallEntry ys) (sym c.swap.ensures) moved
